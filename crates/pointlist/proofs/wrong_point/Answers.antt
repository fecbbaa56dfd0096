-- `pointlist::wrong_point` meets its contract. The loop's invariant: the lowest wrong point is that of the points left, after the last one passed.
use mathlib.Core.Path.{refl, sym, ◌∙◌}
use mathlib.Core.Logic.{inl, inr, ⊎_elim}
use native.Mathlib.Omega.{arith}
use Rattle.pointlist.proofs.Points.{point-wrong, point-right, points-end}
use Rattle.pointlist.proofs.wrong_point.Goals as goal

pub loop-i-init : goal.loop-i-init
loop-i-init c = refl

pub overflow_cast-point : goal.overflow_cast-point
overflow_cast-point c = omega (arith, c.type_inv.points c.loop-i.i)

pub returns-then-point-last : goal.returns-then-point-last
returns-then-point-last c =
    sym (c.loop-i.invariant ∙ point-wrong _ _ _ _ 0 c.loop-i-test.true (⊎_elim inl (λ w. inr w.1) c.then-point-last.either))

pub loop-i-preserved : goal.loop-i-preserved
loop-i-preserved c = c.loop-i.invariant ∙ point-right _ _ _ _ 0 c.loop-i-test.true c.if-point-last.false c.if-n-point.false

pub returns : goal.returns
returns c = sym (c.loop-i.invariant ∙ points-end _ _ _ _ c.loop-i-test.false)
