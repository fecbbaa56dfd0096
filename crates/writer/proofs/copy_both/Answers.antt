-- `writer::copy_both` meets its contract: the second copies are appended to the first.
use Rattle.taskfile.specs.File.{blocks_in}
use Rattle.writer.specs.Writing.{copies}
use Rattle.writer.proofs.Laws.{appended-both}
use Rattle.writer.proofs.Copying.{length-bodies}
use Rattle.writer.proofs.copy_both.Goals as goal

pub returns : goal.returns
unfolding blocks_in
returns c =
    let args = c.args in
    let source = c.args.source.now in
    appended-both args.k (copies source) (copies args.other.now) args.out.now c.copy_blocks.new.out c.copy_blocks-2.new.out
    c.copy_blocks.ensures (rw length-bodies c.copy_blocks-2.ensures)
