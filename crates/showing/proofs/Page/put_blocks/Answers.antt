-- `showing::Page::put_blocks` meets its contract: the blocks that are left are the rest of the text.
use borrow.Author.Rules.{rules}
use mathlib.Core.Path.{refl}
use native.Mathlib.Omega.{arith}
use Prim.Native.Nat.{suc}
use native.Mathlib.Numerals.{add-one}
use lib.ListN.{drop, drop_of_length-le}
use Rattle.model.specs.Lines.{block_at}
use Rattle.taskfile.specs.File.{task_of}
use Rattle.showing.specs.Text.{block_text, blocks_text}
use Rattle.showing.proofs.Laws.{Next, all_left, next, room, put_next, all-put}
use Rattle.showing.proofs.Entries.{blocks-next}
use Rattle.showing.proofs.Page.put_blocks.Goals as goal
use Rattle.showing.proofs.Page.put_blocks.Goals.{In-loop-i}

pub block_count-count-requires : goal.block_count-count-requires
block_count-count-requires c = c.requires.accepted

pub loop-i-init : goal.loop-i-init
loop-i-init c = (refl, all_left _ _ _)

-- the next block is the first of what is left
more : (c : goal.In-loop-i)
    → let args = c.args in
    let loop = c.loop-i in
    let all = (task_of args.file.now).blocks in
    Next args.self.now.out.now args.self.now.at (blocks_text all) loop.self.out.now loop.self.at (block_text (block_at (task_of args.file.now) loop.i)) (blocks_text (drop (suc loop.i) all))
unfolding block_at
more c = next _ _ (blocks-next _ c.loop-i.i (omega arith)) c.loop-i.invariant.1

pub put_block-requires : goal.put_block-requires
put_block-requires c = record { accepted = (c.requires.accepted, omega arith); room = room (more (goal.at.put_block-requires c).In-loop-i) c.requires.room }

pub loop-i-preserved : goal.loop-i-preserved
loop-i-preserved c = (search rules, rw add-one (put_next (more (goal.at.loop-i-preserved c).In-loop-i) c.put_block.ensures.put))

pub returns-clause-put : goal.returns-clause-put
unfolding blocks_text
returns-clause-put c =
    let loop = c.loop-i in
    all-put (rw (drop_of_length-le (task_of c.args.file.now).blocks {i = loop.i} (omega arith)) at loop.invariant.1)
