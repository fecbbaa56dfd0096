-- `testload::BasicDrawn::put` meets its contract: the time is drawn, then the count and the reads.
use Rattle.testload.specs.Draws.{drawn_reads, after_reads, drawn_block, after_block}
use Rattle.testload.proofs.BasicDrawn.put.Goals as goal

pub returns : goal.returns
unfolding drawn_reads after_reads drawn_block after_block
returns c =
    rw (
      ← c.draw-time.ensures.0,
      ← c.draw-time.ensures.1,
      ← c.draw-count.ensures.0,
      ← c.draw-count.ensures.1,
      ← c.put_numbers.ensures.count_after,
    )
    record { block_after = c.close_basic.ensures; state_after = c.put_numbers.ensures.state_after }
