-- `block::put_u16` meets its contract: the library's bytes are the number's.
use mathlib.Core.Path.{◌∙◌}
use Rattle.block.proofs.Bytes.{bytes-le-all, put-part}
use Rattle.block.proofs.put_u16.Goals as goal

pub returns : goal.returns
returns c =
    put-part c.args.at 2 c.args.bytes.now _ _ (c.copy_from_slice.ensures.after ∙ c.to_le_bytes.ensures ∙ bytes-le-all 2 c.args.v)
