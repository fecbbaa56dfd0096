-- `block::close_body` meets its contract: zeros and the number are stored behind the bytes that stay.
use Rattle.block.proofs.Storing.{body_closed}
use Rattle.block.proofs.close_body.Goals as goal

pub returns : goal.returns
returns c =
    body_closed c.args.number c.args.end c.args.block.now c.clear_between.new.bytes c.put_u32.new.bytes c.requires.block_len
    c.requires.end_bound c.clear_between.ensures c.put_u32.ensures
