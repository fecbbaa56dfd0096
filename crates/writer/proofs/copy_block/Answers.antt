-- `writer::copy_block` meets its contract: 504 bytes are copied, and the number is stored behind them.
use native.Mathlib.Omega.{arith}
use lib.ListN.{length-take}
use mathlib.Core.Path.{ap, ◌∙◌}
use Rattle.block.specs.Blocks.{numbered}
use Rattle.writer.proofs.Copying.{copied-front}
use Rattle.writer.proofs.copy_block.Goals as goal

pub slice_bounds-copy_from_slice-end-2 : goal.slice_bounds-copy_from_slice-end-2
slice_bounds-copy_from_slice-end-2 c = simp length-take (omega arith)

pub slice_bounds-copy_from_slice-end-3 : goal.slice_bounds-copy_from_slice-end-3
slice_bounds-copy_from_slice-end-3 c = simp length-take (omega arith)

pub copy_from_slice-requires : goal.copy_from_slice-requires
copy_from_slice-requires c = simp length-take (omega arith)

pub returns : goal.returns
returns c =
    c.close_body.ensures ∙ ap (numbered c.args.number) (copied-front _ _ _ (omega arith) c.copy_from_slice.ensures.after)
