-- `answers::check_output` meets its contract, by the test's two answers.
use borrow.Author.Tests.{eq-eqb, ne_eqb}
use Rattle.model.specs.Answers.{output_row}
use Rattle.answers.proofs.check_output.Goals as goal

pub returns-then-length-size : goal.returns-then-length-size
unfolding output_row
returns-then-length-size c = rw (eq-eqb _ _ c.if-length-size.true)

pub returns-else-length-size : goal.returns-else-length-size
unfolding output_row
returns-else-length-size c = rw (ne_eqb _ _ c.if-length-size.false)
