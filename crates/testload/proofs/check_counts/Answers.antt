-- `testload::check_counts` meets its contract, by the test's two answers.
use Rattle.testload.specs.Calls.{counts_row}
use Rattle.testload.proofs.check_counts.Goals as goal

pub returns-then-counts_in_range : goal.returns-then-counts_in_range
unfolding counts_row
returns-then-counts_in_range c = rw (← c.counts_in_range.ensures, c.if-counts_in_range.true)

pub returns-else-counts_in_range : goal.returns-else-counts_in_range
unfolding counts_row
returns-else-counts_in_range c = rw (← c.counts_in_range.ensures, c.if-counts_in_range.false)
