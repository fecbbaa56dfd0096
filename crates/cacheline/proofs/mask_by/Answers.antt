-- `cacheline::mask_by` meets its contract: a number with a single one among its digits is a power of two.
use Prim.Native.Nat.{ℕ, zero, suc, ◌+◌, ◌/◌, ◌%◌, ◌^◌, ◌≤◌}
use mathlib.Core.Path.{◌≡◌, sym, ◌∙◌}
use mathlib.Core.Logic.{by_cases}
use native.Mathlib.Decide.{ℕ_discrete}
use native.Mathlib.Omega.{arith}
use lib.Bits.{and_mask}
use lib.Count.{ones, ones_step}
use lib.Pow.{pow-add}
use borrow.Author.Tests.{eqb-true}
use Rattle.std.proofs.lemmas.Nat.{ones_le_self, zero_from_ones}
use Rattle.cacheline.proofs.mask_by.Goals as goal

power : (d n : ℕ) → n ≤ d → ones n ≡ 1 → (k : ℕ) × (n ≡ 2 ^ k)
power zero n h e = absurd (omega (arith, ones_le_self n))
power (suc d) n h e =
    by_cases (ℕ_discrete (n % 2) 1)
    (λ odd. let none : n / 2 ≡ 0 = zero_from_ones (n / 2) (omega (arith, ones_step n)) in (0, omega arith))
    (λ even.
    let half = power d (n / 2) (omega (arith, ones_step n)) (omega (arith, ones_step n)) in
    (half.0 + 1, omega (arith, half.1, pow-add 2 half.0 1)))

pub returns-then-is_power_of_two : goal.returns-then-is_power_of_two
returns-then-is_power_of_two c =
    let is = power c.args.lines c.args.lines (omega arith) (eqb-true _ _ (sym c.is_power_of_two.ensures ∙ c.if-is_power_of_two.true)) in
    λ some m. rw is.1 (and_mask m is.0)
