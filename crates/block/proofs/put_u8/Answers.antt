-- `block::put_u8` meets its contract: a byte is its own lowest byte.
use native.Mathlib.Omega.{arith}
use Rattle.block.proofs.Storing.{byte-stored}
use Rattle.block.proofs.put_u8.Goals as goal

pub returns : goal.returns
returns c = byte-stored c.args.bytes.now c.args.at c.args.v (omega arith) c.requires
