-- `writer::close_file` meets its contract: the header is stored before the blocks, and all of them get their checksums.
use mathlib.Core.Path.{◌∙◌}
use native.Mathlib.Omega.{arith}
use lib.ListN.{length-take}
use Rattle.writer.proofs.Laws.{file-closed}
use Rattle.writer.proofs.close_file.Goals as goal

pub slice_bounds-put_header-end-2 : goal.slice_bounds-put_header-end-2
slice_bounds-put_header-end-2 c = simp length-take (omega arith)

pub put_header-requires : goal.put_header-requires
put_header-requires c = simp length-take (omega arith)

pub returns : goal.returns
returns c =
    let args = c.args in
    file-closed args.blocks args.preempters args.header args.out.now c.put_header.new.block c.seal_blocks.new.file (omega arith)
    (c.put_header.auto.block ∙ simp length-take (omega arith)) c.put_header.ensures c.seal_blocks.ensures
