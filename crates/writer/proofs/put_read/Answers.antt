-- `writer::put_read` meets its contract: the numbers before it stay, and it is read where it was stored.
use native.Mathlib.Omega.{arith}
use native.Mathlib.Numerals.{add-one}
use Rattle.writer.proofs.Storing.{read-stored}
use Rattle.writer.proofs.put_read.Goals as goal

pub returns : goal.returns
returns c =
    rw add-one
    (read-stored c.args.block.now c.put_u32.new.bytes c.args.j c.args.m c.requires.block_len c.requires.j_bound (omega arith)
    c.put_u32.ensures)
