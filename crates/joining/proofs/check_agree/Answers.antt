-- `joining::check_agree` meets its contract, by the test's two answers.
use Rattle.joining.specs.Calls.{agree_row}
use Rattle.joining.proofs.check_agree.Goals as goal

pub returns-then-same_board : goal.returns-then-same_board
unfolding agree_row
returns-then-same_board c = rw (← c.same_board.ensures, c.if-same_board.true)

pub returns-else-same_board : goal.returns-else-same_board
unfolding agree_row
returns-else-same_board c = rw (← c.same_board.ensures, c.if-same_board.false)
