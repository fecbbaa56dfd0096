-- `testload::Generator::put_numbers` meets its contract. The loop's invariant: the first `j` numbers stand in the block, and the state is the one
-- after them.
use Rattle.std.proofs.Common.{refl, sym, ap, ◌∙◌, add-one}
use Rattle.block.specs.Bytes.{fields}
use Rattle.testload.specs.Draws.{next, after, drawn_list}
use Rattle.testload.proofs.Draws.{after-snoc, number_more}
use Rattle.testload.proofs.Generator.put_numbers.Goals as goal

pub loop-j-init : goal.loop-j-init
unfolding fields after drawn_list
loop-j-init c = (refl, refl)

pub loop-j-preserved : goal.loop-j-preserved
loop-j-preserved c =
    let loop = c.loop-j in
    let state = c.args.self.now.state in (
      rw add-one (number_more loop.j state loop.self.state c.draw.result loop.block c.put_read.new.block loop.invariant.0 loop.invariant.1
          c.draw.ensures.0 (rw add-one at c.put_read.ensures)),
      rw add-one (c.draw.ensures.1 ∙ ap next loop.invariant.1 ∙ sym (after-snoc next loop.j state)),
    )
