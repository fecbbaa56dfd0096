-- What callers of `hash` use: the bound of a hash.
-- Assumes nothing.
use Prim.Native.Nat.{ℕ, ◌<◌, ◌^◌}
use mathlib.Core.List.{List, [], ◌∷◌}
use native.Mathlib.Omega.{arith}
use Rattle.fnv.specs.Fnv.{step, hash_from}

pub hash-below : (state : ℕ) (xs : List ℕ) → state < 2 ^ 32 → hash_from state xs < 2 ^ 32
unfolding hash_from
hash-below state [] h = h
hash-below state (x ∷ xs) h = hash-below (step state x) xs (omega arith)
