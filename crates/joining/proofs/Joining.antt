-- A joined file is accepted and its task is the joined one; so three files are joined in either order to the same bytes, and what is useful in a
-- file stays useful.
-- Assumes nothing.
use Rattle.model.specs.Answers.{accept}
use Prim.Native.Nat.{ℕ, ◌≤◌}
use mathlib.Core.Path.{◌≡◌, refl, sym, ap, ◌∙◌}
use mathlib.Core.List.{List}
use native.Mathlib.Omega.{arith}
use lib.ListN.{length}
use Rattle.model.specs.Task.{Task, block_count}
use Rattle.model.proofs.Verdicts.{both-accepted, output-accepts}
use Rattle.taskfile.specs.File.{task_of, file_of, verdict}
use Rattle.taskfile.proofs.Files.{accepted-within}
use Rattle.taskfile.proofs.Tasks.{length-file, file-then-task}
use Rattle.joining.specs.Joining.{joined_header, joined}
use Rattle.joining.specs.Calls.{agree_row, totals_row, join_rows, join_verdict, join_left}
use Rattle.joining.specs.Statements.{JoinedAccepted, JoinedInOrder, FirstContained, SecondContained}
use Rattle.joining.proofs.Tasks.{Agreeing, agreeing, agreeing-agree, few-fit, counts-fit, RowsAccept, rows-accept, count-joined, preempters-joined, within-joined, joined-assoc}
use Rattle.joining.proofs.Contained.{useful-first, useful-second}

module _ (first second out : List ℕ) (e : join_verdict first second out ≡ accept) where
  parts : (verdict first ≡ accept) × (verdict second ≡ accept) × (join_rows (task_of first) (task_of second) (length out) ≡ accept)
  unfolding join_verdict
  parts =
      let one = both-accepted (verdict first) _ e in
      let two = both-accepted (verdict second) _ one.1 in
      (one.0, two.0, two.1)

  rows : RowsAccept (task_of first) (task_of second) (length out)
  rows = rows-accept (task_of first) (task_of second) (length out) parts.2

  left : join_left first second out ≡ file_of (joined (task_of first) (task_of second))
  unfolding join_left
  left = rw e refl

  made : (verdict (join_left first second out) ≡ accept) × (task_of (join_left first second out) ≡ joined (task_of first) (task_of second))
  made =
      rw left
      (file-then-task (joined (task_of first) (task_of second))
      (within-joined (task_of first) (task_of second) (accepted-within first parts.0) (accepted-within second parts.1) rows.room.fit))

pub joined-accepted : JoinedAccepted
joined-accepted first second out e = made first second out e

pub first-contained : FirstContained
first-contained first second out e k c h = rw (made first second out e).1 (useful-first (task_of first) (task_of second) k c h)

pub second-contained : SecondContained
second-contained first second out e k c h =
    rw (made first second out e).1
    (useful-second (task_of first) (task_of second) k c (agreeing (task_of first) (task_of second) (rows first second out e).agreed) h)

-- files that agree, whose totals fit, and a buffer of the joined length
join-accepts : (first second out : List ℕ) → verdict first ≡ accept → verdict second ≡ accept → Agreeing (task_of first) (task_of second)
    → block_count (joined (task_of first) (task_of second)) ≤ 64 → length (joined (task_of first) (task_of second)).preempters ≤ 32
    → length out ≡ length (file_of (joined (task_of first) (task_of second))) → join_verdict first second out ≡ accept
unfolding join_verdict join_rows agree_row totals_row
join-accepts first second out e f a h l long =
    let t : Task = task_of first in
    let u : Task = task_of second in
    let agreed = agreeing-agree t u a in
    let fit = few-fit _ _ h l in
    let size = length-file (joined t u) (within-joined t u (accepted-within first e) (accepted-within second f) fit) in
    rw (e, f, agreed, fit, output-accepts _ (length out) (long ∙ size))

-- a joined task agrees with what both of its parts agree with
agree_left : (t u v : Task) → Agreeing t u → Agreeing u v → Agreeing (joined t u) v
unfolding joined joined_header
agree_left t u v a b = record { lines = a.lines ∙ b.lines; reloads = a.reloads ∙ b.reloads; ranges = a.ranges ∙ b.ranges; switches = a.switches ∙ b.switches }

agree_right : (t u v : Task) → Agreeing t u → Agreeing t (joined u v)
unfolding joined joined_header
agree_right t u v a = record { lines = a.lines; reloads = a.reloads; ranges = a.ranges; switches = a.switches }

pub joined-in-order : JoinedInOrder
joined-in-order f g h two other three last a b c all l₁ l₂ l₃ l₄ =
    let t : Task = task_of f in
    let u : Task = task_of g in
    let v : Task = task_of h in
    let tu = agreeing t u all.first_two in
    let uv = agreeing u v all.last-two in
    let fit = counts-fit _ _ all.totals in
    let n₁ = count-joined t u in
    let n₂ = count-joined u v in
    let n₃ = count-joined (joined t u) v in
    let n₄ = count-joined t (joined u v) in
    let m₁ = preempters-joined t u in
    let m₂ = preempters-joined u v in
    let m₃ = preempters-joined (joined t u) v in
    let m₄ = preempters-joined t (joined u v) in
    let front = made f g two (join-accepts f g two a b tu (omega arith) (omega arith) l₁) in
    let back = made g h other (join-accepts g h other b c uv (omega arith) (omega arith) l₂) in
    let front-first = join-accepts (join_left f g two) h three front.0 c (rw front.1 (agree_left t u v tu uv)) (rw front.1 (omega arith)) (rw front.1 (omega arith))
    (rw front.1 l₃) in
    let back-first = join-accepts f (join_left g h other) last a back.0 (rw back.1 (agree_right t u v tu)) (rw back.1 (omega arith)) (rw back.1 (omega arith))
    (rw (back.1, ← joined-assoc t u v) (l₄ ∙ l₃)) in (
      front-first,
      back-first,
      left _ _ _ front-first ∙ ap (λ (x : Task). file_of (joined x v)) front.1 ∙ ap file_of (joined-assoc t u v) ∙
          sym (ap (λ (x : Task). file_of (joined t x)) back.1) ∙ sym (left _ _ _ back-first),
    )
