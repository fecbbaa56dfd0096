-- `planvalue::point_before` meets its contract: the point before index i is that at i - 1.
use Prim.Native.Nat.{ℕ, zero, suc, ◌-◌}
use mathlib.Core.Path.{◌≡◌, refl}
use mathlib.Core.List.{List}
use native.Mathlib.Omega.{arith}
use lib.ListN.{get_or}
use Rattle.planvalue.specs.Values.{point_before}
use Rattle.planvalue.proofs.point_before.Goals as goal

later : (ps : List ℕ) (i : ℕ) → (i ≡ 0 → ⊥) → get_or ps (i - 1) 0 ≡ point_before ps i
unfolding point_before
later ps zero h = absurd (h refl)
later ps (suc i) h =
    let e : suc i - 1 ≡ i = omega arith in
    rw e

pub returns-then-i-eq0 : goal.returns-then-i-eq0
unfolding point_before
returns-then-i-eq0 c = rw c.if-i-eq0.true

pub returns : goal.returns
returns c = later c.args.points.now c.args.i c.if-i-eq0.false
