-- `assembling::header_right` meets its contract, line by line.
use native.Mathlib.Omega.{arith}
use borrow.Author.Tests.{eq-eqb, ne_eqb}
use Rattle.std.proofs.lemmas.Bool.Decides.{nat_tests}
use Rattle.assembling.specs.Drafts.{header_right}
use Rattle.assembling.proofs.header_right.Goals as goal

pub returns-then-numbers-eq2 : goal.returns-then-numbers-eq2
unfolding header_right
returns-then-numbers-eq2 c = rw (c.in-6.is, eq-eqb _ _ c.if-numbers-eq2.true)

pub returns-else-numbers-eq2 : goal.returns-else-numbers-eq2
unfolding header_right
returns-else-numbers-eq2 c = rw (c.in-6.is, ne_eqb _ _ c.if-numbers-eq2.false)

pub returns-then-numbers-eq1 : goal.returns-then-numbers-eq1
unfolding header_right
returns-then-numbers-eq1 c = rw (c.in-1.is, eq-eqb _ _ c.if-numbers-eq1.true, c.contains.ensures.value) (grind (arith, nat_tests))

pub returns-else-numbers-eq1 : goal.returns-else-numbers-eq1
unfolding header_right
returns-else-numbers-eq1 c = rw (c.in-1.is, ne_eqb _ _ c.if-numbers-eq1.false)

pub returns-in_default : goal.returns-in_default
unfolding header_right
returns-in_default c = grind (arith, nat_tests)
