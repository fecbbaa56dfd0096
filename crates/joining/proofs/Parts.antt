-- The parts of two accepted files, copied behind one another, are the basic blocks and the preempter blocks of the joined task.
-- Assumes nothing.
use Rattle.model.specs.Answers.{accept}
use Prim.Native.Nat.{ℕ, ◌*◌}
use mathlib.Core.Path.{◌≡◌}
use mathlib.Core.List.{List, ◌++◌, map, map-append}
use lib.ListN.{length}
use Rattle.model.specs.Task.{block_count}
use Rattle.taskfile.specs.File.{basic_bytes, preempter_bytes, basic_blocks, preempter_blocks, task_of, verdict}
use Rattle.taskfile.proofs.Files.{accepted-within}
use Rattle.taskfile.proofs.Tasks.{basics-roomy, preempters-roomy, basics-long, preempters-long}
use Rattle.writer.specs.Writing.{Appended, copies}
use Rattle.writer.proofs.Copying.{copied}
use Rattle.joining.specs.Joining.{joined}

-- the lengths of a file's parts
module _ (file part : List ℕ) where
  pub basics-length : part ≡ basic_blocks (task_of file) → verdict file ≡ accept → length part ≡ 512 * block_count (task_of file)
  basics-length s e = rw s (basics-long (task_of file) (accepted-within file e))

  pub preempters-length : part ≡ preempter_blocks (task_of file) → verdict file ≡ accept → length part ≡ 512 * length (task_of file).preempters
  preempters-length s e = rw s (preempters-long (task_of file) (accepted-within file e))

-- what copies of the parts of both are
module _ (first second : List ℕ) (e : verdict first ≡ accept) (f : verdict second ≡ accept) (k : ℕ) (source other old new : List ℕ)
    (copy : Appended k (copies source ++ copies other) old new) where
  pub basics-appended : source ≡ basic_blocks (task_of first) → other ≡ basic_blocks (task_of second)
      → Appended k (map basic_bytes (joined (task_of first) (task_of second)).blocks) old new
  unfolding joined basic_blocks
  basics-appended s o =
      rw map-append
      (copied _ _ k _ _ source other old new (basics-roomy (task_of first) (accepted-within first e)) (basics-roomy (task_of second) (accepted-within second f)) s o copy)

  pub preempters-appended : source ≡ preempter_blocks (task_of first) → other ≡ preempter_blocks (task_of second)
      → Appended k (map preempter_bytes (joined (task_of first) (task_of second)).preempters) old new
  unfolding joined preempter_blocks
  preempters-appended s o =
      rw map-append
      (copied _ _ k _ _ source other old new (preempters-roomy (task_of first) (accepted-within first e))
      (preempters-roomy (task_of second) (accepted-within second f)) s o copy)
