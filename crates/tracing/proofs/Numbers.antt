-- The numbers of a block, one more stored, and the first of some addresses.
-- Assumes nothing.
use Prim.Native.Nat.{ℕ, ◌+◌, ◌<◌, ◌≤◌, min}
use Rattle.std.specs.Ordering.{ord_min, nat_cmp}
use Rattle.std.proofs.lemmas.Bool.Decides.{nat_tests}
use mathlib.Core.Path.{◌≡◌, sym, ◌∙◌}
use mathlib.Core.Logic.{by_cases}
use mathlib.Core.List.{List, [], ◌∷◌, ◌++◌, map, map-append}
use native.Mathlib.Decide.{dec_le}
use native.Mathlib.Numerals.{add-one}
use native.Mathlib.Omega.{arith}
use lib.ListN.{length, get_or, take}
use lib.Seq.{take_all, take-suc}

pub number_more : (f : ℕ → ℕ) (addresses : List ℕ) (j : ℕ) (old new : List ℕ) → j < length addresses → old ≡ map f (take j addresses)
    → new ≡ old ++ (f (get_or addresses j 0) ∷ []) → new ≡ map f (take (j + 1) addresses)
number_more f addresses j old new h e p = p ∙ rw (add-one, take-suc addresses j 0 h, map-append, e)

pub take-least : (n : ℕ) (xs : List ℕ) → take (min n (length xs)) xs ≡ take n xs
take-least n xs = by_cases (dec_le n (length xs)) part whole
  where
    part : n ≤ length xs → take (min n (length xs)) xs ≡ take n xs
    part h = let e : min n (length xs) ≡ n = omega arith in rw e

    whole : (n ≤ length xs → ⊥) → take (min n (length xs)) xs ≡ take n xs
    whole h = take_all (min n (length xs)) xs (omega arith) ∙ sym (take_all n xs (omega arith))

-- `std::cmp::min` of two numbers
pub smaller : (a b : ℕ) → ord_min nat_cmp a b ≡ min a b
smaller a b = grind (arith, nat_tests)
