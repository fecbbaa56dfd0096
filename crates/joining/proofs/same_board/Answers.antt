-- `joining::same_board` meets its contract.
use mathlib.Core.Bool.{and_assoc}
use Rattle.joining.specs.Joining.{agree}
use Rattle.joining.proofs.same_board.Goals as goal

pub returns : goal.returns
unfolding agree
returns c = rw (← c.header-a.ensures.0, ← c.header-b.ensures.0, c.eq.ensures, ← and_assoc)
