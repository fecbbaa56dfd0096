-- What the calls answer, and what they leave in the lent output (document 02, item 11). Assumes nothing.
use Rattle.std.specs.Prelude.{ℕ, ◌*◌, ◌≡◌, Bool, true, cond, ◌&&◌, List, [], ◌∷◌, ◌++◌, leb, length, take, drop, Err, Option, Result}
use Rattle.model.specs.Task.{Block, Task}
use Rattle.model.specs.Answers.{accept, Verdict, on_accepted, answered, refused_at, and_then, output_row}
use Rattle.model.specs.declared.Refusal.{Refusal}
use Rattle.model.specs.declared.Refusal.TheVariants.{Output, OutOfRange, WrongTraceLine, WrongTrace}
use Rattle.taskfile.specs.File.{file_of}
use Rattle.tracing.specs.Din.{malformed_line, addresses_of}
use Rattle.tracing.specs.Traces.{traced_blocks, traced_task}
use Rattle.tracing.specs.Scans.{scan_place}
use Rattle.tracing.specs.declared.Scan.{Scan}
use Rattle.tracing.specs.declared.Settings.{Settings}

-- the bytes of the output: a file of 64 basic blocks
abbrev pub output_size : ℕ
output_size = 33280

-- S is 1 to 512, the size is not 0, and g is 1 to 124
unfoldable pub settings_in_range : Settings → Bool
settings_in_range s = leb 1 s.line_count && leb s.line_count 512 && leb 1 s.size && leb 1 s.group && leb s.group 124

-- refusal 10
unfoldable pub settings_row : Settings → Verdict
settings_row s = cond (settings_in_range s) accept (Err OutOfRange)

-- no time is above 4294967295
unfoldable pub times_fit : List Block → Bool
times_fit [] = true
times_fit (b ∷ bs) = leb b.time 4294967295 && times_fit bs

-- refusal 14: no record, more than 64 · g of them, or a time above 4294967295
unfoldable pub records_row : Settings → List ℕ → Verdict
records_row s addresses =
    let n = length addresses in
    cond (leb 1 n && leb n (64 * s.group) && times_fit (traced_blocks s addresses)) accept (Err WrongTrace)

-- refusal 13
unfoldable pub line_row : Option ℕ → Verdict
line_row malformed = refused_at malformed WrongTraceLine accept

-- the verdict, in order: 9, 10, 13 at the lowest malformed line, and 14
unfoldable pub verdict_of : Settings → Option ℕ → List ℕ → List ℕ → Verdict
verdict_of s malformed addresses out =
    and_then (output_row output_size (length out)) (and_then (settings_row s) (and_then (line_row malformed) (records_row s addresses)))

-- what is left to know once nothing is refused
pub record Traceable (s : Settings) (addresses : List ℕ) : Type 0 where
  pub in-range : settings_in_range s ≡ true
  pub records : records_row s addresses ≡ accept

-- what is answered with a verdict: the length of the task's file, or the refusal
unfoldable pub answer_of : Verdict → Task → Result ℕ Refusal
answer_of v t = answered v (length (file_of t))

-- the output after the call: it begins with the file, and the bytes past that are as they were; on a refusal all are
unfoldable pub output_of : Verdict → Task → List ℕ → List ℕ
output_of v t out = on_accepted v (file_of t ++ drop (length (file_of t)) out) out

-- what is answered and left for a text with this malformed line, if any, and these addresses
unfoldable pub made_answer : Settings → Option ℕ → List ℕ → List ℕ → Result ℕ Refusal
made_answer s malformed addresses out = answer_of (verdict_of s malformed addresses out) (traced_task s addresses)

unfoldable pub made_output : Settings → Option ℕ → List ℕ → List ℕ → List ℕ
made_output s malformed addresses out = output_of (verdict_of s malformed addresses out) (traced_task s addresses) out

-- the call on a whole text

abbrev pub trace_verdict : Settings → List ℕ → List ℕ → Verdict
trace_verdict s text out = verdict_of s (malformed_line text) (addresses_of text) out

abbrev pub trace_answer : Settings → List ℕ → List ℕ → Result ℕ Refusal
trace_answer s text out = made_answer s (malformed_line text) (addresses_of text) out

abbrev pub trace_output : Settings → List ℕ → List ℕ → List ℕ
trace_output s text out = made_output s (malformed_line text) (addresses_of text) out

-- the call on a scan and the room in which its addresses were kept

-- the addresses that a room holds at least: one more than the largest file has, 64 · 124
abbrev pub least_room : ℕ
least_room = 7937

-- refusal 9 of a room: it is too small
unfoldable pub room_row : List ℕ → Verdict
room_row room = cond (leb least_room (length room)) accept (Err Output)

-- what is answered and left with a room: its row comes first, then the later ones
unfoldable pub room_answer : List ℕ → Result ℕ Refusal → Result ℕ Refusal
room_answer room later = on_accepted (room_row room) later (answered (room_row room) 0)

unfoldable pub room_output : List ℕ → List ℕ → List ℕ → List ℕ
room_output room later out = on_accepted (room_row room) later out

-- the addresses are the first of the room, one for each record
abbrev pub scan_answer : Settings → Scan → List ℕ → List ℕ → Result ℕ Refusal
scan_answer s scan room out = room_answer room (made_answer s (scan_place scan) (take scan.records room) out)

abbrev pub scan_output : Settings → Scan → List ℕ → List ℕ → List ℕ
scan_output s scan room out = room_output room (made_output s (scan_place scan) (take scan.records room) out) out
