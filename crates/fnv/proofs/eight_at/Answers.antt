-- `fnv::eight_at` meets its contract: no byte adds to a sum that is 0.
use Rattle.fnv.proofs.Zeros.{word-zero}
use Rattle.fnv.proofs.eight_at.Goals as goal

pub returns : goal.returns
returns c = word-zero c.args.bytes.now c.args.at _ c.from_le_bytes.ensures
