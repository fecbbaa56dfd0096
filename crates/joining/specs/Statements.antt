-- What is shown of joined files beside the contract (document 02, item 8). Assumes nothing.
use Rattle.std.specs.Prelude.{ℕ, ◌+◌, ◌≡◌, true, List, length}
use Rattle.model.specs.Answers.{accept}
use Rattle.model.specs.Task.{Task, block_count}
use Rattle.model.specs.Lines.{useful}
use Rattle.taskfile.specs.File.{task_of, file_of, IsAccepted}
use Rattle.joining.specs.Joining.{joined, agree, counts_fit}
use Rattle.joining.specs.Calls.{join_verdict, join_left}

-- a joined file is accepted by the reader, and its task is the joined one
abbrev pub JoinedAccepted : Type 0
JoinedAccepted =
    (first second out : List ℕ) → join_verdict first second out ≡ accept
    → IsAccepted (join_left first second out) × (task_of (join_left first second out) ≡ joined (task_of first) (task_of second))

-- three tasks agree in S, R, range and G, and the totals fit
pub record ThreeAgree (t u v : Task) : Type 0 where
  pub first_two : agree t u ≡ true
  pub last-two : agree u v ≡ true
  pub totals : counts_fit (block_count t + block_count u + block_count v) (length t.preempters + length u.preempters + length v.preempters) ≡ true

-- either way of joining three such files in order, into buffers of the right lengths and whatever these held, leaves the same bytes
abbrev pub JoinedInOrder : Type 0
JoinedInOrder =
    (f g h two other three last : List ℕ) → IsAccepted f → IsAccepted g → IsAccepted h → ThreeAgree (task_of f) (task_of g) (task_of h)
    → length two ≡ length (file_of (joined (task_of f) (task_of g))) → length other ≡ length (file_of (joined (task_of g) (task_of h)))
    → length three ≡ length (file_of (joined (joined (task_of f) (task_of g)) (task_of h))) → length last ≡ length three
    → (join_verdict (join_left f g two) h three ≡ accept) × (join_verdict f (join_left g h other) last ≡ accept) ×
    (join_left (join_left f g two) h three ≡ join_left f (join_left g h other) last)

-- U of the first file at each edge is contained in U of the joined file there
abbrev pub FirstContained : Type 0
FirstContained =
    (first second out : List ℕ) → join_verdict first second out ≡ accept → (k c : ℕ) → useful (task_of first) k c ≡ true
    → useful (task_of (join_left first second out)) k c ≡ true

-- and so is that of the second, whose edge k is N + k of the joined file
abbrev pub SecondContained : Type 0
SecondContained =
    (first second out : List ℕ) → join_verdict first second out ≡ accept → (k c : ℕ) → useful (task_of second) k c ≡ true
    → useful (task_of (join_left first second out)) (block_count (task_of first) + k) c ≡ true
