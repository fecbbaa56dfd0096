-- What is shown of task files beside the contracts: files and tasks determine one another (document 01, "Blocks of 512 bytes"), and zeros in
-- place of a scratch range change nothing (document 02, item 5).
-- Assumes nothing.
use Rattle.std.specs.Prelude.{ℕ, ◌≡◌, cond, ◌&&◌, List, ◌∷◌, ◌++◌, length, take, drop, Err}
use Rattle.model.specs.Task.{Task, block_count, line_count}
use Rattle.model.specs.Answers.{accept, Verdict, and_then}
use Rattle.model.specs.Laws.{SeesRemainders}
use Rattle.model.specs.declared.Refusal.TheVariants.{WrongHeader}
use Rattle.block.specs.Bytes.{packed, field}
use Rattle.block.specs.Blocks.{body_right}
use Rattle.taskfile.specs.File.{block_in, task_of, task_numbers, file_of, counts_in_range, length_row, checksum_row, count_row, block_row, verdict, IsAccepted, Within}

-- an accepted file is the bytes of its task: it holds nothing but the numbers that the document names
abbrev pub TaskThenFile : Type 0
TaskThenFile = (file : List ℕ) → IsAccepted file → file_of (task_of file) ≡ file

-- and its task is within the limits
abbrev pub AcceptedWithin : Type 0
AcceptedWithin = (file : List ℕ) → IsAccepted file → Within (task_of file)

-- the bytes of any task within the limits are accepted, and hold that task
abbrev pub FileThenTask : Type 0
FileThenTask = (t : Task) → Within t → IsAccepted (file_of t) × (task_of (file_of t) ≡ t)

-- the answer to any bytes as it was before there was a scratch range: of the header N, M and S are in range, and eight bytes are zero behind its
-- first eight numbers, the last of which is the id
unfoldable pub verdict_before : List ℕ → Verdict
verdict_before file =
    let t = task_of file in
    let numbers = take 8 (task_numbers t) ++ ((8, 0) ∷ drop 10 (task_numbers t)) in
    let right = counts_in_range (block_count t) (length t.preempters) (line_count t) && body_right 0 (packed numbers) (block_in file 0) in
    and_then (length_row file) (and_then (checksum_row file) (and_then (cond right accept (Err WrongHeader)) (and_then (count_row file) (block_row file))))

-- a file with zeros in bytes 20 to 27 has the verdict that it had, and all that answers are made of is as it was
abbrev pub ZerosAsBefore : Type 0
ZerosAsBefore = (file : List ℕ) → field file 20 4 ≡ 0 → field file 24 4 ≡ 0 → (verdict file ≡ verdict_before file) × SeesRemainders (task_of file)
