-- `planvalue::any_behind` meets its contract. The loop's invariant: the or is at least each of the entries passed, since an or is at least
-- each of its sides.
use Prim.Native.Nat.{ℕ, ◌≤◌}
use mathlib.Core.Logic.{by_cases}
use native.Mathlib.Decide.{ℕ_discrete}
use native.Mathlib.Omega.{arith}
use lib.Bits.{bit_or, or_add_and, and_le_l, and_le_r}
use lib.ListN.{get_or}
use Rattle.planvalue.proofs.any_behind.Goals as goal

or_above : (a b : ℕ) → (a ≤ bit_or a b) × (b ≤ bit_or a b)
or_above a b = (omega (arith, or_add_and a b, and_le_r a b), omega (arith, or_add_and a b, and_le_l a b))

pub loop-i-init : goal.loop-i-init
loop-i-init c k l u = absurd (omega arith)

pub loop-i-preserved : goal.loop-i-preserved
loop-i-preserved c k l u =
    let loop = c.loop-i in
    let p : ℕ = get_or c.args.points.now loop.i 0 in
    by_cases (ℕ_discrete k loop.i) (λ s. rw s (or_above loop.any p).1)
    (λ s. omega (arith, loop.invariant k l (omega arith), or_above loop.any p))

pub returns : goal.returns
returns c k l u = c.loop-i.invariant k l (omega arith)
