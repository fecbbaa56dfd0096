-- `block::checksum_is` meets its contract: the test is of the last four bytes.
use mathlib.Core.Path.{sym}
use Rattle.block.proofs.Blocks.{checksum-field}
use Rattle.block.proofs.checksum_is.Goals as goal

pub returns : goal.returns
returns c =
    rw (c.u32_at.ensures, c.requires.1)
    (sym (checksum-field c.args.block.now (λ i _. (c.type_inv.block i).fits) c.requires.0))
