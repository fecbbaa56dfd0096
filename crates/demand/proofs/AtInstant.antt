-- A number that counts at one instant alone. Assumes nothing.
use Prim.Native.Nat.{ℕ, ◌≤◌}
use mathlib.Core.Path.{◌≡◌, refl}
use mathlib.Core.Logic.{by_cases}
use native.Mathlib.Decide.{ℕ_discrete}
use native.Mathlib.Omega.{arith}
use borrow.Author.Tests.{eq-eqb, ne_eqb}
use Rattle.demand.specs.Lanes.{at_instant}

pub at-itself : (t n : ℕ) → at_instant t t n ≡ n
unfolding at_instant
at-itself t n = rw (eq-eqb t t refl)

pub at-another : (x t n : ℕ) → (x ≡ t → ⊥) → at_instant x t n ≡ 0
unfolding at_instant
at-another x t n h = rw (ne_eqb x t h)

pub at_most : (x t n : ℕ) → at_instant x t n ≤ n
at_most x t n =
    by_cases (ℕ_discrete x t) (λ e. rw (e, at-itself t n) (omega arith)) (λ h. rw (at-another x t n h) (omega arith))
