-- `taskfile::header_right` meets its contract: the ranges and the frame are tested, and the numbers are their own bytes. That HEADER_END
-- is where those end is computed.
use borrow.Author.Rules.{rules}
use Rattle.block.proofs.Packing.{total}
use Rattle.taskfile.specs.File.{header_numbers, header_right}
use Rattle.taskfile.proofs.Frames.{length-in, header-bytes}
use Rattle.taskfile.proofs.header_right.Goals as goal

pub returns-then-not-header_in_range : goal.returns-then-not-header_in_range
unfolding header_right
returns-then-not-header_in_range c = rw (← c.header_in_range.ensures, c.if-not-header_in_range.true)

pub body_right-requires : goal.body_right-requires
body_right-requires c =
    record { block_len = rw c.block_at.ensures (length-in c.args.file.now 0 c.requires); le_end = search rules }

pub returns : goal.returns
unfolding header_right header_numbers total
returns c =
    rw (
      ← c.header_in_range.ensures,
      c.if-not-header_in_range.false,
      header-bytes c.args.file.now (λ i h. (c.type_inv.file i).fits) c.requires,
      ← c.block_at.ensures,
    )
    c.body_right.ensures
