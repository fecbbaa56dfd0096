-- What is known of a draft that no wrong line made: its numbers are within the limits of a file. Assumes nothing.
use Rattle.std.specs.Prelude.{ℕ, ◌+◌, ◌^◌, ◌≤◌, ◌<◌, ◌≡◌, length, get_or}
use Rattle.block.specs.Bytes.{Each}
use Rattle.taskfile.specs.File.{EntryWithin}
use Rattle.assembling.specs.Drafts.{Draft}

abbrev pub Small : ℕ → Type 0
Small n = n < 2 ^ 32

-- each number has four bytes, S and the scratch range are in their ranges, and the counts fit; the scratch range brings two numbers at once
pub record Right (d : Draft) : Type 0 where
  pub numbers : Each Small d.numbers
  pub few : length d.numbers ≤ 8
  pub gap : length d.numbers ≡ 7 → ⊥
  pub lines : 1 < length d.numbers → (1 ≤ get_or d.numbers 1 0) × (get_or d.numbers 1 0 ≤ 512)
  pub scratch : 7 < length d.numbers → get_or d.numbers 6 0 + get_or d.numbers 7 0 ≤ 4294967296
  pub blocks : Each (λ b. EntryWithin b.time b.reads) d.blocks
  pub preempters : Each (λ p. EntryWithin p.id p.reads) d.preempters
  pub counts : (length d.blocks ≤ 64) × (length d.preempters ≤ 32)

-- and all of the header is known, and a basic block
pub record Drafted (d : Draft) : Type 0 where
  pub right : Right d
  pub all : 8 ≤ length d.numbers
  pub some : 0 < length d.blocks
