-- `showing::Page::put_preempter` meets its contract: its line.
use native.Mathlib.Omega.{arith}
use Rattle.taskfile.proofs.Accepted.{accepted, block-count, preempter-count}
use Rattle.showing.proofs.Entries.{preempter-line}
use Rattle.showing.proofs.Page.put_preempter.Goals as goal

pub overflow_add-k-2 : goal.overflow_add-k-2
overflow_add-k-2 c =
    let file = c.args.file.now in
    omega (arith, preempter-count file, (accepted file c.requires.accepted.0).preempters-most)

pub put_entry-requires : goal.put_entry-requires
put_entry-requires c =
    let file = c.args.file.now in
    let line = preempter-line c.args.file.now c.args.i _ c.requires.accepted.1 c.preempter_id-id.ensures in
    record { accepted = (c.requires.accepted.0, omega arith, omega (arith, block-count file, preempter-count file)); room = rw (line, ← c.block_count.ensures.0) at c.requires.room }

pub returns-clause-put : goal.returns-clause-put
returns-clause-put c =
    let line = preempter-line c.args.file.now c.args.i _ c.requires.accepted.1 c.preempter_id-id.ensures in
    rw (line, ← c.block_count.ensures.0) c.put_entry.ensures.put
