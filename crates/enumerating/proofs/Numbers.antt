-- The list of a number is well formed: the points that its bits say rise. Assumes nothing.
use Prim.Native.Nat.{ℕ, zero, suc, ◌+◌, ◌-◌, ◌/◌, ◌%◌, ◌≤◌, ◌<◌}
use mathlib.Core.Path.{◌≡◌, refl}
use mathlib.Core.Bool.{Bool, true, false, cond}
use mathlib.Core.List.{◌∷◌}
use native.Mathlib.Nat.{le_refl}
use native.Mathlib.Omega.{arith}
use lib.Dec.{eqb}
use borrow.Author.Tests.{lt-ltb}
use Rattle.model.specs.Lists.{steps, every, right_point, well_formed}
use Rattle.enumerating.specs.Numbers.{points_after, list_of}

-- the points that bits say rise
points-right : (n a b k m : ℕ) → b ≤ a → n ≡ suc (a + k) → every (right_point n) (steps b (points_after a k m)) ≡ true
unfolding points_after every steps
points-right n a b zero m h e = refl
points-right n a b (suc k) m h e =
    go (eqb (m % 2) 1) (points-right n (suc a) (suc a) k (m / 2) (le_refl _) (omega arith)) (points-right n (suc a) b k (m / 2) (omega arith) (omega arith))
  where
    go : (x : Bool)
        → every (right_point n) (steps (suc a) (points_after (suc a) k (m / 2))) ≡ true
        → every (right_point n) (steps b (points_after (suc a) k (m / 2))) ≡ true
        → every (right_point n) (steps b (cond x (suc a ∷ points_after (suc a) k (m / 2)) (points_after (suc a) k (m / 2)))) ≡ true
    go true after same = rw (lt-ltb b (suc a) (omega arith), lt-ltb (suc a) n (omega arith)) after
    go false after same = same

-- the list of a number is well formed, whatever its higher bits
pub list_right : (n m : ℕ) → 0 < n → well_formed n (list_of n m) ≡ true
list_right n m h = points-right n 0 0 (n - 1) m (le_refl 0) (omega arith)
