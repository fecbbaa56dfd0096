-- What is made of a scanned text is what its lines make, if the room is large enough. Where more
-- records are found than there is room for, both are refused. A room that is too small is refused
-- first.
-- Assumes nothing.
use Rattle.std.specs.Prelude.{Err, None, Ok, Option, Result, Some}
use Prim.Native.Nat.{ℕ, ◌+◌, ◌^◌, ◌<◌, ◌≤◌}
use mathlib.Core.Path.{◌≡◌, refl, sym, ap, ◌∙◌}
use mathlib.Core.Bool.{Bool, true, false, cond, ◌&&◌}
use mathlib.Core.Logic.{by_cases}
use mathlib.Core.List.{List, [], ◌∷◌}
use native.Mathlib.Nat.{zero-add}
use native.Mathlib.Decide.{dec_le}
use native.Mathlib.Omega.{arith}
use borrow.Author.Tests.{le-leb, leb-true}
use lib.Dec.{eqb, leb}
use lib.ListN.{length, take, drop, set, length-set, length-take}
use lib.Seq.{take_at, sets, sets-eq, length-sets}
use Rattle.model.specs.Task.{Task}
use Rattle.model.specs.Answers.{accept, Verdict, on_accepted, answered, and_then, output_row}
use Rattle.model.specs.declared.Refusal.{Refusal}
use Rattle.model.specs.declared.Refusal.TheVariants.{Output, OutOfRange}
use Rattle.tracing.specs.Din.{line_feed, malformed_line, addresses_of}
use Rattle.tracing.specs.Traces.{traced_task}
use Rattle.tracing.specs.Scans.{started, ends_at, after, kept_after, scanned, kept}
use Rattle.tracing.specs.Calls.{output_size, settings_in_range, settings_row, records_row, line_row, verdict_of, answer_of, output_of, made_answer, made_output}
use Rattle.tracing.specs.Calls.{least_room, room_row, room_answer, room_output}
use Rattle.tracing.specs.Statements.{Pieces, ScannedWhole}
use Rattle.tracing.specs.declared.Scan.{Scan}
use Rattle.tracing.specs.declared.Settings.{Settings}
use Rattle.tracing.proofs.Groups.{known, group-few, many-refused}
use Rattle.tracing.proofs.Rows.{accepted-rows}
use Rattle.tracing.proofs.Scanning.{scanned-place, scanned-records, scanned-kept, somewhere}

-- a verdict and two tasks that are the same where it accepts
alike : (v : Verdict) (t u : Task) (out : List ℕ) → (v ≡ accept → t ≡ u) → (answer_of v t ≡ answer_of v u) × (output_of v t out ≡ output_of v u out)
unfolding answer_of output_of
alike (Ok v) t u out e = rw (e refl) (refl, refl)
alike (Err x) t u out e = (refl, refl)

module _ (s : Settings) (malformed : Option ℕ) (xs ys out : List ℕ) where
  abbrev Same : Type 0
  Same = (made_answer s malformed xs out ≡ made_answer s malformed ys out) × (made_output s malformed xs out ≡ made_output s malformed ys out)

  made_alike : verdict_of s malformed xs out ≡ verdict_of s malformed ys out → (verdict_of s malformed ys out ≡ accept → xs ≡ ys) → Same
  unfolding made_answer made_output
  made_alike e h = rw e (alike (verdict_of s malformed ys out) (traced_task s xs) (traced_task s ys) out (λ a. ap (traced_task s) (h a)))

  -- too many records are refused, whatever they are
  many-alike : 7936 < length xs → 7936 < length ys → Same
  unfolding verdict_of settings_row
  many-alike hx hy = made_alike same (λ a. absurd (let k = known s ys (accepted-rows s malformed ys out a).traceable in omega arith))
    where
      rows : (t : Bool) → settings_in_range s ≡ t
          → and_then (cond t accept (Err OutOfRange)) (and_then (line_row malformed) (records_row s xs))
          ≡ and_then (cond t accept (Err OutOfRange)) (and_then (line_row malformed) (records_row s ys))
      rows true e =
          let few = group-few s e in
          ap (and_then (line_row malformed)) (sym (many-refused s xs (omega arith)) ∙ many-refused s ys (omega arith))
      rows false e = refl

      same : verdict_of s malformed xs out ≡ verdict_of s malformed ys out
      same = ap (and_then (output_row output_size (length out))) (rows (settings_in_range s) refl)

-- a malformed line is refused, whatever the records are
line-alike : (s : Settings) (i : ℕ) (xs ys out : List ℕ) → Same s (Some i) xs ys out
unfolding verdict_of line_row
line-alike s i xs ys out = made_alike s (Some i) xs ys out refl (λ a. absurd (somewhere (accepted-rows s (Some i) ys out a).lines))

module _ (s : Settings) (text addresses out : List ℕ) (few : length text < 2 ^ 64) (enough : least_room ≤ length addresses) where
  abbrev found : List ℕ
  found = take (scanned started text).records (kept started text addresses)

  right-alike : malformed_line text ≡ None → Same s None found (addresses_of text) out
  right-alike e = rw (scanned-records text addresses few e, scanned-kept text addresses few e) (by_cases (dec_le (length rs) (length addresses)) fits many)
    where
      rs : List ℕ
      rs = addresses_of text

      fits : length rs ≤ length addresses → Same s None (take (length rs) (sets addresses 0 rs)) rs out
      fits h =
          let all : take (length rs) (sets addresses 0 rs) ≡ rs =
          ap (take (length rs)) (sets-eq rs addresses 0 (rw zero-add h)) ∙ take_at rs (drop (0 + length rs) addresses) (length rs) refl in
          rw all (refl, refl)

      many : (length rs ≤ length addresses → ⊥) → Same s None (take (length rs) (sets addresses 0 rs)) rs out
      many h = many-alike s None _ rs out (rw length-take (omega (arith, length-sets addresses 0 rs))) (omega arith)

  whole : Same s (malformed_line text) found (addresses_of text) out
  whole = go (malformed_line text) refl
    where
      go : (p : Option ℕ) → malformed_line text ≡ p → Same s p found (addresses_of text) out
      go None e = right-alike e
      go (Some i) e = line-alike s i found (addresses_of text) out

-- a room stays as long as it was
kept-length : (s : Scan) (bs room : List ℕ) → length (kept s bs room) ≡ length room
unfolding kept kept_after
kept-length s [] room = refl
kept-length s (b ∷ bs) room = kept-length (after s b) bs (kept_after s b room) ∙ go (eqb b line_feed && ends_at s.column)
  where
    go : (t : Bool) → length (cond t (set room s.records s.address) room) ≡ length room
    go true = length-set room s.records s.address
    go false = refl

-- two rooms of one length answer and leave the same, if what comes after their row does
rooms-alike : (old new out : List ℕ) (a b : Result ℕ Refusal) (x y : List ℕ) → length new ≡ length old → (least_room ≤ length old → (a ≡ b) × (x ≡ y))
    → (room_answer new a ≡ room_answer old b) × (room_output new x out ≡ room_output old y out)
unfolding room_row room_answer room_output
rooms-alike old new out a b x y e h = rw e (go (leb least_room (length old)) refl)
  where
    go : (t : Bool) → leb least_room (length old) ≡ t → let row = cond t accept (Err Output) in
        (on_accepted row a (answered row 0) ≡ on_accepted row b (answered row 0)) × (on_accepted row x out ≡ on_accepted row y out)
    go true w = h (leb-true _ _ w)
    go false w = (refl, refl)

-- a room that is large enough changes nothing
pub room-enough : (room out : List ℕ) (a : Result ℕ Refusal) (x : List ℕ) → least_room ≤ length room → (room_answer room a ≡ a) × (room_output room x out ≡ x)
unfolding room_row room_answer room_output
room-enough room out a x h = rw (le-leb least_room (length room) h) (refl, refl)

pub scanned-whole : ScannedWhole
scanned-whole s text room out few =
    rooms-alike room (kept started text room) out _ _ _ _ (kept-length started text room)
    (λ enough. rw (scanned-place text room few) (whole s text room out few enough))

pub pieces : Pieces
unfolding scanned kept
pieces s [] second addresses = (refl, refl)
pieces s (b ∷ first) second addresses = pieces (after s b) first second (kept_after s b addresses)
