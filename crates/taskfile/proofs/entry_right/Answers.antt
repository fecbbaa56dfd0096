-- `taskfile::entry_right` meets its contract: the count and the frame are tested, and the numbers are their own bytes.
use borrow.Author.Tests.{le-leb, lt-leb}
use Rattle.taskfile.specs.File.{entry_right}
use Rattle.taskfile.proofs.Frames.{entry-bytes}
use Rattle.taskfile.proofs.entry_right.Goals as goal

pub returns-then-count-gt124 : goal.returns-then-count-gt124
unfolding entry_right
returns-then-count-gt124 c = rw (← c.u16_at-count.ensures, lt-leb _ 124 c.if-count-gt124.true)

pub returns : goal.returns
unfolding entry_right
returns c =
    let few = c.if-count-gt124.false in
    let args = c.args in
    rw (
      entry-bytes args.block.now (λ i h. (c.type_inv.block i).fits) c.requires.0 args.kind c.args.byte_1
          c.u16_at-count.result c.u16_at-count.ensures few,
      ← c.u16_at-count.ensures,
      le-leb _ 124 few,
    )
    c.body_right.ensures
