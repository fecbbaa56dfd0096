-- A list is its elements one by one.
-- Assumes nothing.
use Prim.Native.Nat.{ℕ, zero, suc, ◌+◌}
use mathlib.Core.Path.{◌≡◌}
use mathlib.Core.List.{List}
use native.Mathlib.Omega.{arith}
use lib.ListN.{length, get_or, drop}
use lib.Seq.{drop-cons, drop-length}
use Rattle.taskfile.specs.File.{collect}

pub elements : (xs : List ℕ) (k n : ℕ) → k + n ≡ length xs → collect (λ i. get_or xs i 0) k n ≡ drop k xs
unfolding collect
elements xs k zero e =
    let all : k ≡ length xs = omega arith in
    rw (all, drop-length)
elements xs k (suc n) e = rw (drop-cons xs k 0 (omega arith), elements xs (suc k) n (omega arith))
