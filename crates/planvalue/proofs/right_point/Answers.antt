-- `planvalue::right_point` meets its contract: the second test is made where the first holds.
use borrow.Author.Tests.{lt-ltb, le-ltb}
use Rattle.planvalue.proofs.right_point.Goals as goal

pub returns-then-a-p : goal.returns-then-a-p
returns-then-a-p c = rw (lt-ltb _ _ c.if-a-p.true)

pub returns-else-a-p : goal.returns-else-a-p
returns-else-a-p c = rw (le-ltb _ _ c.if-a-p.false)
