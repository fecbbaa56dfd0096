-- `planblock::put_head` meets its contract: after each store the buffer begins with one field more.
use Rattle.planblock.proofs.Storing.{head-stored}
use Rattle.planblock.proofs.put_head.Goals as goal

pub returns : goal.returns
returns c =
    head-stored c.args.plan c.args.out.now c.put_u16.new.bytes c.put_u16-2.new.bytes c.put_u16-3.new.bytes
    c.put_u16-4.new.bytes c.put_u64.new.bytes c.put_u32.new.bytes c.put_u16.ensures c.put_u16-2.ensures
    c.put_u16-3.ensures c.put_u16-4.ensures c.put_u64.ensures c.put_u32.ensures
