-- What is shown of traces beside the contracts (document 02, item 11). Assumes nothing.
use Rattle.std.specs.Prelude.{ℕ, ◌^◌, ◌<◌, ◌≡◌, List, ◌++◌, length, take, Ok}
use Rattle.model.specs.Answers.{accept}
use Rattle.taskfile.specs.File.{task_of, IsAccepted}
use Rattle.tracing.specs.Din.{addresses_of}
use Rattle.tracing.specs.Traces.{traced_task}
use Rattle.tracing.specs.Scans.{started, scanned, kept}
use Rattle.tracing.specs.Calls.{trace_verdict, trace_answer, trace_output, room_answer, room_output, scan_answer, scan_output}
use Rattle.tracing.specs.declared.Scan.{Scan}
use Rattle.tracing.specs.declared.Settings.{Settings}

-- the settings are numbers of 32 bits
pub record Narrow (s : Settings) : Type 0 where
  pub limit : s.limit < 2 ^ 32
  pub reload : s.reload < 2 ^ 32
  pub id : s.id < 2 ^ 32

-- the file that is made, the first bytes of the output, is accepted, and its task is the traced one
abbrev pub TracedAccepted : Type 0
TracedAccepted =
    (s : Settings) (text out : List ℕ) → Narrow s → trace_verdict s text out ≡ accept
    → (n : ℕ) × (trace_answer s text out ≡ Ok n) ×
    (let file = take n (trace_output s text out) in
    IsAccepted file × (task_of file ≡ traced_task s (addresses_of text)))

-- a piece and then another come to both
abbrev pub Pieces : Type 0
Pieces =
    (s : Scan) (first second addresses : List ℕ)
    → (scanned s (first ++ second) ≡ scanned (scanned s first) second)
    × (kept s (first ++ second) addresses ≡ kept (scanned s first) second (kept s first addresses))

-- after a text is scanned, `finish` answers 9 if the room is too small, and otherwise what `trace`
-- answers of the text; it leaves the output likewise. This holds of every room and what it held
abbrev pub ScannedWhole : Type 0
ScannedWhole =
    (s : Settings) (text room out : List ℕ) → length text < 2 ^ 64
    → let scan = scanned started text in let found = kept started text room in
    (scan_answer s scan found out ≡ room_answer room (trace_answer s text out)) × (scan_output s scan found out ≡ room_output room (trace_output s text out) out)
