-- `planvalue::point_right` meets its contract: an entry below the count is tested as a point, and any other for zero.
use borrow.Author.Tests.{lt-ltb, le-ltb}
use Rattle.planvalue.specs.Values.{point_right}
use Rattle.planvalue.proofs.point_right.Goals as goal

pub returns-then-i-count : goal.returns-then-i-count
unfolding point_right
returns-then-i-count c =
    rw (c.right_point.ensures, c.point_before.ensures, lt-ltb _ _ c.if-i-count.true)

pub returns : goal.returns
unfolding point_right
returns c = rw (le-ltb _ _ c.if-i-count.false)
