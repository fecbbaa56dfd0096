-- `assembling::with_numbers` meets its contract.
use native.Mathlib.Omega.{arith}
use mathlib.Core.Logic.{by_cases}
use mathlib.Core.Path.{refl}
use native.Mathlib.Decide.{ℕ_discrete}
use Prim.Native.Nat.{◌≤◌}
use lib.ListN.{length}
use Rattle.assembling.proofs.Drafting.{scratch-two, other-one, knows-one, knows-two}
use Rattle.assembling.proofs.with_numbers.Goals as goal
use Rattle.assembling.proofs.with_numbers.Goals.{Start, then-known-eq6, else-known-eq6}

-- there is a number
some : (c : goal.Start) → 1 ≤ length c.args.numbers.now
some c =
    by_cases (ℕ_discrete c.args.known.given 6) (λ e. omega (arith, scratch-two _ _ e c.requires.0)) (λ e. omega (arith, other-one _ _ e c.requires.0))

pub bounds-numbers-0 : goal.bounds-numbers-0
bounds-numbers-0 c = omega (arith, some (goal.at.bounds-numbers-0 c).Start)

pub bounds-numbers-1 : goal.bounds-numbers-1
bounds-numbers-1 c = omega (arith, scratch-two _ _ c.if-known-eq6.true c.requires.0)

pub returns : goal.returns
returns c =
    elim c.if-known-eq6.branch [
      | then-known-eq6 w ↦
          rw w.known-is (λ d knows. knows-two d _ knows c.args.numbers.now (scratch-two _ _ w.if-known-eq6.true c.requires.0) w.if-known-eq6.true, refl, refl)
      | else-known-eq6 w ↦ rw w.known-is (λ d knows. knows-one d _ knows c.args.numbers.now (other-one _ _ w.if-known-eq6.false c.requires.0) c.requires.1, refl, refl)
    ]
