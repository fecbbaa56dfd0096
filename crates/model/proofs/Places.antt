-- How large a refusal's place can be, for the calls that add to it or that return number and place in one u32.
-- Assumes nothing.
use Rattle.std.specs.Prelude.{Err, None, Ok, Option, Some}
use Prim.Native.Nat.{ℕ, suc, ◌+◌, ◌<◌, ◌≤◌}
use mathlib.Core.Path.{◌≡◌, refl}
use mathlib.Core.Bool.{Bool, true, false, cond}
use mathlib.Core.List.{List, [], ◌∷◌}
use native.Mathlib.Omega.{arith}
use lib.ListN.{length}
use Rattle.model.specs.Task.{Task, block_count}
use Rattle.model.specs.Lists.{Region, steps, regions, lowest, right_point}
use Rattle.model.specs.Regions.{region_fits}
use Rattle.model.specs.Answers.{First, Second, Input, accept, Verdict, number, place, verdict_number, verdict_place, place_of, most_blocks, and_then, refused_at, pricing}
use Rattle.model.specs.declared.Refusal.{Refusal}
use Rattle.model.specs.declared.Refusal.TheVariants.{Length, Checksum, WrongHeader, BlockCount, WrongBlock, NoPlacement, Argument, AboveLimit, Output, OutOfRange, Mismatch, TooManyBlocks, WrongTraceLine, WrongTrace, LongTask, WrongTaskSet, WrongText}

number-most : (r : Refusal) → number r ≤ 17
number-most Length = omega arith
number-most (Checksum k) = omega arith
number-most WrongHeader = omega arith
number-most BlockCount = omega arith
number-most (WrongBlock k) = omega arith
number-most NoPlacement = omega arith
number-most (Argument i) = omega arith
number-most (AboveLimit i) = omega arith
number-most Output = omega arith
number-most OutOfRange = omega arith
number-most Mismatch = omega arith
number-most TooManyBlocks = omega arith
number-most (WrongTraceLine i) = omega arith
number-most WrongTrace = omega arith
number-most LongTask = omega arith
number-most WrongTaskSet = omega arith
number-most (WrongText i) = omega arith

pub verdict-number-most : (v : Verdict) → verdict_number v ≤ 17
verdict-number-most (Ok u) = omega arith
verdict-number-most (Err r) = number-most r

-- an input's place is at most 97 more than the refusal's own
pub of-most : (i : Input) (v : Verdict) → place_of i v ≤ verdict_place v + most_blocks
of-most First v = omega arith
of-most Second (Ok u) = omega arith
of-most Second (Err r) = omega arith

pub then-most : (v w : Verdict) (n : ℕ) → verdict_place v ≤ n → (v ≡ accept → verdict_place w ≤ n) → verdict_place (and_then v w) ≤ n
then-most (Ok u) w n g h = h refl
then-most (Err r) w n g h = g

pub at_most : (p : Option ℕ) (r : ℕ → Refusal) (v : Verdict) (n : ℕ) → ((k : ℕ) → p ≡ Some k → place (r k) ≤ n) → verdict_place v ≤ n
    → verdict_place (refused_at p r v) ≤ n
at_most None r v n g h = h
at_most (Some k) r v n g h = g k refl

-- one refusal, if a test fails
pub test-most : (right : Bool) (x : Refusal) (n : ℕ) → place x ≤ n → verdict_place (cond right accept (Err x)) ≤ n
test-most true x n h = omega arith
test-most false x n h = h

-- a place that is found is one of those looked at
lowest-within : (f : ℕ → ℕ → Bool) (i k : ℕ) (rs : List Region) → lowest f i rs ≡ Some k → k < i + length rs
unfolding lowest
lowest-within f i k [] e = let z : ◌≡◌ {A = ℕ} 0 1 = cc in absurd (omega arith)
lowest-within f i k (r ∷ rs) e = go (f r.from r.to) e (lowest-within f (suc i) k rs)
  where
    go : (b : Bool) → cond b (lowest f (suc i) rs) (Some i) ≡ Some k → (lowest f (suc i) rs ≡ Some k → k < suc i + length rs)
        → k < i + length (r ∷ rs)
    go true q ih = omega (arith, ih q)
    go false q ih = let s : i ≡ k = cc in omega arith

length-steps : (a : ℕ) (ps : List ℕ) → length (steps a ps) ≡ length ps
unfolding steps
length-steps a [] = refl
length-steps a (p ∷ ps) = omega (arith, length-steps p ps)

length-regions : (n a : ℕ) (ps : List ℕ) → length (regions n a ps) ≡ 1 + length ps
unfolding regions
length-regions n a [] = refl
length-regions n a (p ∷ ps) = omega (arith, length-regions n p ps)

-- pricing names a point or a region of the list
pub pricing-most : (t : Task) (ps : List ℕ) → verdict_place (pricing t ps) ≤ length ps
pricing-most t ps =
    let n : ℕ = block_count t in
    at_most (lowest (right_point n) 0 (steps 0 ps)) Argument _ (length ps)
    (λ k e. omega (arith, lowest-within (right_point n) 0 k (steps 0 ps) e, length-steps 0 ps))
    (at_most (lowest (region_fits t) 0 (regions n 0 ps)) AboveLimit accept (length ps)
    (λ k e. omega (arith, lowest-within (region_fits t) 0 k (regions n 0 ps) e, length-regions n 0 ps)) (omega arith))
