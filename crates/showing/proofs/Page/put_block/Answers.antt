-- `showing::Page::put_block` meets its contract: its line, by whether the sampler is armed.
use native.Mathlib.Omega.{arith}
use Prim.Native.Nat.{◌+◌}
use mathlib.Core.Path.{◌≡◌}
use mathlib.Core.Bool.{cond}
use mathlib.Core.List.{◌∷◌}
use Rattle.model.specs.Lines.{block_at}
use Rattle.taskfile.specs.File.{entry_reads, task_of}
use Rattle.showing.specs.Text.{armed_word, block_word, line_text, block_text}
use Rattle.taskfile.proofs.Accepted.{block-count, few-blocks}
use Rattle.showing.proofs.Entries.{block-line}
use Rattle.showing.proofs.Page.put_block.Goals as goal
use Rattle.showing.proofs.Page.put_block.Goals.{After-armed}

pub overflow_add-k : goal.overflow_add-k
overflow_add-k c = omega (arith, few-blocks c.args.file.now c.requires.accepted.0)

-- the block's line, by what is read of it
line : (c : goal.After-armed)
    → let args = c.args in
    block_text (block_at (task_of args.file.now) args.i) ≡
    line_text (cond c.armed.result armed_word block_word) (c.time-time.result ∷ entry_reads args.file.now (args.i + 1))
line c =
    block-line c.args.file.now c.args.i _ _ c.requires.accepted.1 c.time-time.ensures c.armed.ensures

pub put_entry-requires : goal.put_entry-requires
put_entry-requires c =
    record { accepted = (c.requires.accepted.0, omega arith, omega (arith, block-count c.args.file.now)); room = rw (rw c.if-armed.true at (line (goal.at.put_entry-requires c).After-armed)) at c.requires.room }

pub put_entry-requires-else-armed : goal.put_entry-requires-else-armed
put_entry-requires-else-armed c =
    record { accepted = (c.requires.accepted.0, omega arith, omega (arith, block-count c.args.file.now)); room = rw (rw c.if-armed.false at (line (goal.at.put_entry-requires-else-armed c).After-armed)) at c.requires.room }

pub returns-then-armed-clause-put : goal.returns-then-armed-clause-put
returns-then-armed-clause-put c = rw (rw c.if-armed.true at (line (goal.at.returns-then-armed-clause-put c).After-armed)) c.put_entry.ensures.put

pub returns-else-armed-clause-put : goal.returns-else-armed-clause-put
returns-else-armed-clause-put c = rw (rw c.if-armed.false at (line (goal.at.returns-else-armed-clause-put c).After-armed)) c.put_entry-else-armed.ensures.put
