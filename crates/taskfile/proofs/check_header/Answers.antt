-- `taskfile::check_header` meets its contract, by the test's two answers.
use Rattle.taskfile.specs.File.{header_row}
use Rattle.taskfile.proofs.check_header.Goals as goal

pub returns-then-header_right : goal.returns-then-header_right
unfolding header_row
returns-then-header_right c = rw (← c.header_right.ensures, c.if-header_right.true)

pub returns-else-header_right : goal.returns-else-header_right
unfolding header_row
returns-else-header_right c = rw (← c.header_right.ensures, c.if-header_right.false)
