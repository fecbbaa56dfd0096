-- `writer::close_entry` meets its contract: the numbers before the reads are stored in front of them, and the reads stay.
use Rattle.writer.proofs.Storing.{entry-stored}
use Rattle.writer.proofs.close_entry.Goals as goal

pub returns : goal.returns
returns c =
    let args = c.args in
    entry-stored args.block.now c.put_u8.new.bytes c.put_u8-2.new.bytes c.put_u16.new.bytes c.put_u32.new.bytes c.close_body.new.block
    args.number args.kind c.args.byte_1 args.x args.count (λ i h. (c.slice_known-1.given i).fits) c.requires.block_len c.requires.count_bound
    c.put_u8.ensures c.put_u8-2.ensures c.put_u16.ensures c.put_u32.ensures c.close_body.ensures
