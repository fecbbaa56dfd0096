-- `tracing::Scan::check_line` meets its contract, by the column.
use native.Mathlib.Omega.{arith}
use borrow.Author.Tests.{eq-eqb, ne_eqb}
use Rattle.tracing.specs.Scans.{scan_place}
use Rattle.tracing.specs.Calls.{line_row}
use Rattle.tracing.proofs.Scan.check_line.Goals as goal

pub returns-then-self-eq0 : goal.returns-then-self-eq0
unfolding line_row scan_place
returns-then-self-eq0 c = rw (eq-eqb c.args.self.column 0 (omega arith))

pub returns-else-self-eq0 : goal.returns-else-self-eq0
unfolding line_row scan_place
returns-else-self-eq0 c = rw (ne_eqb _ 0 c.if-self-eq0.false)
