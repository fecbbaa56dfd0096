-- What joining two files answers, and what it leaves in the lent buffer (document 02, item 8). Assumes nothing.
use Rattle.std.specs.Prelude.{ℕ, cond, List, length, Err}
use Rattle.model.specs.Task.{Task, block_count}
use Rattle.model.specs.Answers.{Input, accept, Verdict, on_accepted, and_then, whose, place_of, output_row}
use Rattle.model.specs.declared.Refusal.TheVariants.{Mismatch, TooManyBlocks}
use Rattle.taskfile.specs.File.{task_of, file_of, verdict}
use Rattle.writer.specs.Writing.{file_size}
use Rattle.joining.specs.Joining.{joined, agree, counts_fit}

-- refusal 11: S, R, the scratch range or G differ (document 02, items 8 and 14)
unfoldable pub agree_row : Task → Task → Verdict
agree_row t u = cond (agree t u) accept (Err Mismatch)

-- refusal 12: too many basic blocks or preempters
unfoldable pub totals_row : ℕ → ℕ → Verdict
totals_row n m = cond (counts_fit n m) accept (Err TooManyBlocks)

-- the rows about two tasks and a buffer of this length, in their order; N and M are those of the joined task
unfoldable pub join_rows : Task → Task → ℕ → Verdict
join_rows t u size =
    let n = block_count (joined t u) in
    let m = length (joined t u).preempters in
    and_then (agree_row t u) (and_then (totals_row n m) (output_row (file_size n m) size))

-- the answer: the first file's refusals, then the second's, then these rows
unfoldable pub join_verdict : List ℕ → List ℕ → List ℕ → Verdict
join_verdict first second out = and_then (verdict first) (and_then (verdict second) (join_rows (task_of first) (task_of second) (length out)))

-- whose refusal that is
abbrev pub join_input : List ℕ → List ℕ → Input
join_input first second = whose (verdict first) (verdict second)

-- and its place: 97 is added to the second file's
unfoldable pub join_place : List ℕ → List ℕ → List ℕ → ℕ
join_place first second out = place_of (join_input first second) (join_verdict first second out)

-- the buffer after the call: the bytes of the joined task, and on a refusal what it held
unfoldable pub join_left : List ℕ → List ℕ → List ℕ → List ℕ
join_left first second out = on_accepted (join_verdict first second out) (file_of (joined (task_of first) (task_of second))) out
