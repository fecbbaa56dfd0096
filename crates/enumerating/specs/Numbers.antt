-- Lists of points by number (document 02, item 12). Assumes nothing.
use Rattle.std.specs.Prelude.{ℕ, zero, suc, ◌+◌, ◌-◌, ◌/◌, ◌%◌, ◌^◌, cond, List, [], ◌∷◌, eqb}

-- the number of a list: the sum of 2 to the power p - 1 over its points p
unfoldable pub number_of : List ℕ → ℕ
number_of [] = 0
number_of (p ∷ ps) = 2 ^ (p - 1) + number_of ps

-- the points that the k lowest bits of a number say, the lowest bit of a + 1
unfoldable pub points_after : ℕ → ℕ → ℕ → List ℕ
points_after a zero m = []
points_after a (suc k) m = cond (eqb (m % 2) 1) (suc a ∷ points_after (suc a) k (m / 2)) (points_after (suc a) k (m / 2))

-- the list of a number, for n blocks
abbrev pub list_of : ℕ → ℕ → List ℕ
list_of n m = points_after 0 (n - 1) m
