-- `tracing::Scan::step` meets its contract, by what the byte is.
use borrow.Author.Tests.{eq-eqb, ne_eqb}
use Rattle.tracing.specs.Scans.{after}
use Rattle.tracing.proofs.Scan.step.Goals as goal

pub returns-then-byte-eq10 : goal.returns-then-byte-eq10
unfolding after
returns-then-byte-eq10 c = rw (eq-eqb _ 10 c.if-byte-eq10.true) c.end_line.ensures

pub returns-else-byte-eq10 : goal.returns-else-byte-eq10
unfolding after
returns-else-byte-eq10 c = rw (ne_eqb _ 10 c.if-byte-eq10.false) c.add_byte.ensures
