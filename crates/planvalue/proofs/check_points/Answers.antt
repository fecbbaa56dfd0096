-- `planvalue::check_points` meets its contract: where the or of the entries from the count on is 0, each of them is 0 and so right, and the
-- lowest wrong entry of all is that of the points.
use Prim.Native.Nat.{ℕ, zero, suc, ◌+◌, ◌<◌, ◌≤◌}
use mathlib.Core.Path.{◌≡◌}
use mathlib.Core.Bool.{Bool, true}
use mathlib.Core.List.{List}
use native.Mathlib.Omega.{arith}
use lib.ListN.{get_or}
use borrow.Author.Tests.{le-ltb, eq-eqb}
use Rattle.model.specs.Lists.{lowest_from}
use Rattle.model.proofs.Lowest.{nowhere-lowest}
use Rattle.planvalue.specs.Values.{point_right}
use Rattle.planvalue.proofs.Verdicts.{count-in-range}
use Rattle.planvalue.proofs.check_points.Goals as goal

-- the lowest of m is that of the first n where the others are right
lowest-first : (f : ℕ → Bool) (a n m : ℕ) → n ≤ m → ((k : ℕ) → a + n ≤ k → k < a + m → f k ≡ true) → lowest_from f a m ≡ lowest_from f a n
unfolding lowest_from
lowest-first f a zero m h right = nowhere-lowest f a m (λ k l u. right k (omega arith) u)
lowest-first f a (suc n) zero h right = absurd (omega arith)
lowest-first f a (suc n) (suc m) h right = rw (lowest-first f (suc a) n m (omega arith) (λ k l u. right k (omega arith) (omega arith)))

-- a zero from the count on is right
zero_right : (n count : ℕ) (ps : List ℕ) (k : ℕ) → count ≤ k → get_or ps k 0 ≡ 0 → point_right n count ps k ≡ true
unfolding point_right
zero_right n count ps k h e = rw (le-ltb k count h) (eq-eqb _ _ e)

-- where all from the count on are zeros, the lowest wrong entry is that of the points
points-lowest : (n count : ℕ) (ps : List ℕ) → count ≤ 64 → ((k : ℕ) → count ≤ k → k < 64 → get_or ps k 0 ≤ 0)
    → lowest_from (point_right n count ps) 0 64 ≡ lowest_from (point_right n count ps) 0 count
points-lowest n count ps h zeros =
    lowest-first (point_right n count ps) 0 count 64 h
    (λ k l u. let z : get_or ps k 0 ≤ 0 = zeros k (omega arith) u in zero_right n count ps k (omega arith) (omega arith))

pub first_wrong-requires : goal.first_wrong-requires
first_wrong-requires c = omega (arith, count-in-range c.args.plan c.requires)

pub returns-then-any_behind-eq0 : goal.returns-then-any_behind-eq0
returns-then-any_behind-eq0 c =
    let most : c.args.plan.count ≤ 64 = omega (arith, count-in-range c.args.plan c.requires) in
    let zeros : (k : ℕ) → c.args.plan.count ≤ k → k < 64 → get_or c.args.plan.points k 0 ≤ 0 = λ k l u. omega (arith, c.any_behind.ensures k l u) in
    rw (points-lowest _ _ _ most zeros) c.first_wrong.ensures
