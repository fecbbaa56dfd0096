-- `taskfile::block_right` meets its contract: blocks 1 to N are of kind 2, and the others of kind 3.
use mathlib.Core.Path.{◌∙◌}
use native.Mathlib.Omega.{arith}
use borrow.Author.Rules.{rules}
use borrow.Author.Tests.{le-leb, lt-leb}
use Rattle.taskfile.specs.File.{counts, block_right}
use Rattle.taskfile.proofs.Frames.{length-in}
use Rattle.taskfile.proofs.block_right.Goals as goal

pub armed_byte-requires : goal.armed_byte-requires
armed_byte-requires c = rw c.block_at-block.ensures (length-in _ _ c.requires.1)

pub entry_right-requires : goal.entry_right-requires
entry_right-requires c =
    (rw c.block_at-block.ensures (length-in _ _ c.requires.1), search rules)

pub entry_right-requires-else-k-blocks : goal.entry_right-requires-else-k-blocks
entry_right-requires-else-k-blocks c = (rw c.block_at-block.ensures (length-in _ _ c.requires.1), search rules)

pub returns-then-k-blocks : goal.returns-then-k-blocks
unfolding block_right
returns-then-k-blocks c =
    let args = c.args in
    c.entry_right.ensures ∙ rw (c.armed_byte.ensures, c.block_at-block.ensures, le-leb args.k (counts args.file.now).blocks (omega arith))

pub returns-else-k-blocks : goal.returns-else-k-blocks
unfolding block_right
returns-else-k-blocks c =
    let args = c.args in
    c.entry_right-else-k-blocks.ensures ∙ rw (c.block_at-block.ensures, lt-leb args.k (counts args.file.now).blocks (omega arith))
