-- What two steps of the check of a file answer. Assumes nothing.
use Rattle.std.specs.Prelude.{ℕ, ◌+◌, ◌-◌, ◌≤◌, ◌≡◌, Bool, ◌&&◌, List}
use Rattle.model.specs.Lists.{lowest_from}
use Rattle.taskfile.specs.File.{blocks_in, sum_right}

-- the checksums of the four blocks from block k on are right
abbrev pub four_right : List ℕ → ℕ → Bool
four_right file k = sum_right file k && sum_right file (k + 1) && sum_right file (k + 2) && sum_right file (k + 3)

-- the lowest block of a file with a wrong checksum is the lowest among its last blocks, as many as are left
abbrev pub LeftToTest : List ℕ → ℕ → Type 0
LeftToTest file left = (left ≤ blocks_in file) × (lowest_from (sum_right file) 0 (blocks_in file) ≡ lowest_from (sum_right file) (blocks_in file - left) left)
