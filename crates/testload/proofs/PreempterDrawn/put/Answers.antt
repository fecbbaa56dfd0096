-- `testload::PreempterDrawn::put` meets its contract: the count is drawn, then the reads.
use Rattle.testload.specs.Draws.{drawn_reads, after_reads, drawn_preempter}
use Rattle.testload.proofs.PreempterDrawn.put.Goals as goal

pub returns : goal.returns
unfolding drawn_reads after_reads drawn_preempter
returns c =
    rw (← c.draw.ensures.0, ← c.draw.ensures.1, ← c.put_numbers.ensures.count_after)
    record { block_after = c.close_preempter.ensures; state_after = c.put_numbers.ensures.state_after }
