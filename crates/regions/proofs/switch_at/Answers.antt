-- `regions::switch_at` meets its contract, by its two cases.
use borrow.Author.Tests.{eq-eqb, ne_eqb}
use Rattle.regions.proofs.switch_at.Goals as goal

pub returns-then-edge-eq0 : goal.returns-then-edge-eq0
returns-then-edge-eq0 c = rw (eq-eqb _ _ c.if-edge-eq0.true)

pub returns-else-edge-eq0 : goal.returns-else-edge-eq0
returns-else-edge-eq0 c = rw (ne_eqb _ _ c.if-edge-eq0.false)
