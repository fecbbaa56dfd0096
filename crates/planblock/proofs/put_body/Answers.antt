-- `planblock::put_body` meets its contract: after each store the buffer begins with one part more.
use Rattle.planblock.proofs.Storing.{body-stored}
use Rattle.planblock.proofs.put_body.Goals as goal

pub returns : goal.returns
returns c =
    body-stored c.args.plan c.put_head.new.out c.put_points.new.out c.close_body.new.block
    c.put_head.ensures c.put_points.ensures c.close_body.ensures
