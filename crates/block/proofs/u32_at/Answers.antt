-- `block::u32_at` meets its contract: the library reads the same number.
use mathlib.Core.Path.{◌∙◌}
use Rattle.block.proofs.Bytes.{field-four}
use Rattle.block.proofs.u32_at.Goals as goal

pub returns : goal.returns
returns c = c.from_le_bytes.ensures ∙ field-four c.args.bytes.now c.args.at c.requires
