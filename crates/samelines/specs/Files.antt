-- Two files that differ in their preempters alone (document 02, items 7 and 10). Assumes nothing.
use Rattle.std.specs.Prelude.{ℕ, ◌≤◌, ◌≡◌, List}
use Rattle.model.specs.Lines.{evicted}
use Rattle.model.specs.Charges.{touches}
use Rattle.taskfile.specs.File.{block_in, counts, task_of, IsAccepted}

-- both files are accepted, their headers and basic blocks (blocks 0 to N) have equal bytes, and each line is touched by a preempter block of the
-- one exactly when by one of the other; a number of the scratch range touches none
pub record SameLines (file other : List ℕ) : Type 0 where
  pub accepted : IsAccepted file
  pub other-accepted : IsAccepted other
  pub blocks : (k : ℕ) → k ≤ (counts file).blocks → block_in file k ≡ block_in other k
  pub touched : (c : ℕ) → evicted (task_of file) c ≡ evicted (task_of other) c

-- the same, and more: each preempter block by itself touches the same lines in both; M is among the header's bytes
pub record SameEach (file other : List ℕ) : Type 0 where
  pub accepted : IsAccepted file
  pub other-accepted : IsAccepted other
  pub blocks : (k : ℕ) → k ≤ (counts file).blocks → block_in file k ≡ block_in other k
  pub touched : (i c : ℕ) → touches (task_of file) i c ≡ touches (task_of other) i c
