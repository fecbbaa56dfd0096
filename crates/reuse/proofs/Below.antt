-- A set that grows line by line: the lines below c for which m holds, and then line c. Assumes nothing.
use Prim.Native.Nat.{ℕ, ◌+◌}
use mathlib.Core.Path.{◌≡◌, refl}
use mathlib.Core.Bool.{Bool, ◌&&◌, ◌||◌, or-false}
use mathlib.Core.Logic.{by_cases}
use native.Mathlib.Decide.{dec_lt, ℕ_discrete}
use native.Mathlib.Omega.{arith}
use lib.Dec.{eqb, ltb}
use borrow.Author.Tests.{eq-eqb, ne_eqb, lt-ltb, le-ltb}

pub one_more : (m : ℕ → Bool) (c d : ℕ) → (ltb d c && m d || eqb d c && m c) ≡ (ltb d (c + 1) && m d)
one_more m c d =
    by_cases (ℕ_discrete d c) (λ e. rw (e, eq-eqb c c refl, le-ltb c c (omega arith), lt-ltb c (c + 1) (omega arith)) refl)
    (λ n.
    rw (ne_eqb d c n, or-false)
    (by_cases (dec_lt d c) (λ h. rw (lt-ltb d c h, lt-ltb d (c + 1) (omega arith)) refl)
    (λ h. rw (le-ltb d c (omega arith), le-ltb d (c + 1) (omega arith)) refl)))
