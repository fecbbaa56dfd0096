-- Costs and lengths of an accepted file fit: times, R and G have four bytes, a region loads at most 512 lines, and the one from edge 0 none.
-- Assumes nothing.
use Prim.Native.Nat.{ℕ, zero, suc, ◌+◌, ◌-◌, ◌*◌, ◌^◌, ◌≤◌, ◌<◌}
use mathlib.Core.Path.{◌≡◌, refl}
use mathlib.Core.Bool.{Bool, true, false, cond}
use mathlib.Core.List.{List, [], ◌∷◌}
use native.Mathlib.Nat.{mul-le-mul}
use native.Mathlib.Omega.{arith}
use lib.Dec.{eqb}
use lib.ListN.{length}
use Rattle.model.specs.Task.{Task, block_count, no_block}
use Rattle.model.specs.Lines.{block_at}
use Rattle.model.specs.Lists.{regions, total}
use Rattle.model.specs.Regions.{time_after, loaded, region_lines, switch_ticks, region_cost, region_length, lines}
use Rattle.model.proofs.Digits.{count_none}
use Rattle.model.proofs.LineStates.{useful-start}
use Rattle.model.proofs.Lists.{rising-short}
use Rattle.model.proofs.Regions.{cost-of-lines, lines-region, lines_from}
use Rattle.block.specs.Bytes.{Each}
use Rattle.block.proofs.Each.{each_at}
use Rattle.taskfile.specs.File.{task_of, header_numbers, EntryWithin, Within}
use Rattle.taskfile.proofs.Accepted.{accepted, block-count, few-blocks}
use Rattle.taskfile.proofs.Files.{accepted-within}
use Rattle.planner.specs.Statements.{CostFits, LengthFits}

module _ (t : Task) (w : Within t) where
  four_bytes : (t.header.reload < 2 ^ 32) × (t.header.switch < 2 ^ 32)
  unfolding Each header_numbers
  four_bytes = let numbers = w.numbers in (omega arith, omega arith)

  time-small : (i : ℕ) → i < block_count t → (block_at t i).time < 2 ^ 32
  unfolding block_at
  time-small i h = (each_at (λ b. EntryWithin b.time b.reads) t.blocks i no_block w.blocks h).number

  times-small : (a n : ℕ) → a + n ≤ block_count t → time_after t a n ≤ n * 4294967295
  unfolding time_after
  times-small a zero h = omega arith
  times-small a (suc n) h = omega (arith, times-small a n (omega arith), time-small (a + n) (omega arith))

  switch-small : (a : ℕ) → switch_ticks t a ≤ 4294967295
  unfolding switch_ticks
  switch-small a = go (eqb a 0)
    where
      go : (z : Bool) → cond z 0 t.header.switch ≤ 4294967295
      go true = omega arith
      go false = omega (arith, four_bytes.1)

  cost-small : (a b : ℕ) → region_cost t a b ≤ 4294967295 * 513
  unfolding region_cost
  cost-small a b =
      let reload : t.header.reload ≤ 4294967295 = omega (arith, four_bytes.0) in
      omega (arith, mul-le-mul reload (lines-region t a b), switch-small a)

  length-small : (a b : ℕ) → a ≤ b → b ≤ block_count t → block_count t ≤ 64 → region_length t a b < 2 ^ 42
  unfolding region_length
  length-small a b r h few = omega (arith, times-small a (b - a) (omega arith), cost-small a b)

-- nothing is useful at edge 0
start-free : (t : Task) (b : ℕ) → region_lines t 0 b ≡ 0
unfolding region_lines loaded
start-free t b = count_none 512 (loaded t 0 b) (λ c _. rw (useful-start t c) refl)

lines-few : (t : Task) (ps : List ℕ) → lines t ps ≤ length ps * 512
unfolding total regions
lines-few t [] = omega (arith, start-free t (block_count t))
lines-few t (p ∷ ps) = omega (arith, start-free t p, lines_from t (block_count t) p ps)

pub length-fits : LengthFits
length-fits file e a b r h = length-small (task_of file) (accepted-within file e) a b r h (few-blocks file e)

pub cost-fits : CostFits
cost-fits file e ps f =
    let t = task_of file in
    let small = four_bytes t (accepted-within file e) in
    let some : 0 < block_count t = omega (arith, block-count file, (accepted file e).blocks-least) in
    let short = rising-short (block_count t) 0 ps some f in
    let count : length ps ≤ 63 = omega (arith, few-blocks file e) in
    let reload : t.header.reload ≤ 4294967295 = omega (arith, small.0) in
    let switch : t.header.switch ≤ 4294967295 = omega (arith, small.1) in
    let most : lines t ps ≤ 63 * 512 = omega (arith, lines-few t ps) in
    omega (arith, cost-of-lines t ps f, mul-le-mul reload most, mul-le-mul switch count)
