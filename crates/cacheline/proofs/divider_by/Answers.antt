-- `cacheline::divider_by` meets its contract: the factor is near enough below or above.
use native.Mathlib.Omega.{arith}
use Rattle.cacheline.proofs.Dividers.{factor-least, factor-less, rest-less, divides-whole, divides-below, divides-above}
use Rattle.cacheline.proofs.divider_by.Goals as goal

pub overflow_mul-rest : goal.overflow_mul-rest
overflow_mul-rest c = omega (arith, factor-least _ _ c.requires.0 c.requires.2)

pub overflow_sub-rest : goal.overflow_sub-rest
overflow_sub-rest c = omega (arith, factor-least _ _ c.requires.0 c.requires.2)

pub returns-then-rest-eq0 : goal.returns-then-rest-eq0
returns-then-rest-eq0 c = divides-whole _ _ c.requires.0 c.requires.2 c.if-rest-eq0.true

pub overflow_mul-rest-2 : goal.overflow_mul-rest-2
overflow_mul-rest-2 c =
    omega (arith, rest-less _ _ c.requires.0 c.requires.2, c.requires.1)

pub returns-then-rest-whole : goal.returns-then-rest-whole
returns-then-rest-whole c =
    divides-below _ _ c.requires.0 c.requires.2 (omega (arith, c.if-rest-eq0.false)) c.if-rest-whole.true

pub overflow_add-result : goal.overflow_add-result
overflow_add-result c =
    omega (arith, factor-less _ _ c.requires.0 c.requires.2 (omega (arith, c.if-rest-eq0.false)))

pub returns : goal.returns
returns c =
    divides-above _ _ c.requires.0 c.requires.2 (omega (arith, c.if-rest-eq0.false)) (omega (arith, c.if-rest-whole.false))
