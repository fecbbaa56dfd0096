-- The counts of the lines that regions load, in one array of 64 rows of 64 columns: row i is of basic block i + 1. Assumes nothing.
use Rattle.std.specs.Prelude.{ℕ, zero, suc, ◌+◌, ◌-◌, ◌*◌, ◌≤◌, ◌<◌, ◌≡◌, List, length, get_or}
use Rattle.model.specs.Task.{block_count}
use Rattle.model.specs.Regions.{new_lines}
use Rattle.taskfile.specs.File.{IsAccepted, task_of}

-- at 64 (b - 1) + a stands how many lines the region from a loads first in block b
pub record NewLines (file counts : List ℕ) : Type 0 where
  pub accepted : IsAccepted file
  pub long : length counts ≡ 4096
  pub counted : (a b : ℕ) → a < b → b ≤ block_count (task_of file) → get_or counts (64 * (b - 1) + a) 0 ≡ new_lines (task_of file) a b

-- the sum of the first n columns of row i
unfoldable pub row_sum : List ℕ → ℕ → ℕ → ℕ
row_sum counts i zero = 0
row_sum counts i (suc n) = row_sum counts i n + get_or counts (64 * i + n) 0

-- what the walk over the reads leaves: the same as sums over the columns before a, and in each row no more than a block has reads
pub record Rereads (file counts : List ℕ) : Type 0 where
  pub long : length counts ≡ 4096
  pub few : (i : ℕ) → i < block_count (task_of file) → row_sum counts i 64 ≤ 124
  pub sums : (a i : ℕ) → a ≤ i → i < block_count (task_of file) → row_sum counts i a ≡ new_lines (task_of file) a (suc i)

-- row i has at its columns up to i the sums of those before each
abbrev pub SummedRow : ℕ → List ℕ → List ℕ → Type 0
SummedRow i before after = (a : ℕ) → a ≤ i → get_or after (64 * i + a) 0 ≡ row_sum before i a

-- and so has each of the first rows
abbrev pub SummedRows : ℕ → List ℕ → List ℕ → Type 0
SummedRows rows before after = (a i : ℕ) → a ≤ i → i < rows → get_or after (64 * i + a) 0 ≡ row_sum before i a

-- no row but row i has changed
abbrev pub OthersStay : ℕ → List ℕ → List ℕ → Type 0
OthersStay i before after = (r a : ℕ) → (r ≡ i → ⊥) → a < 64 → get_or after (64 * r + a) 0 ≡ get_or before (64 * r + a) 0
