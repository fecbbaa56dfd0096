-- `testload::Generator::put_blocks` meets its contract. The loop's invariant: the first `i` blocks are appended, and the state is the one after them.
use Rattle.std.proofs.Common.{◌+◌, ◌-◌, ◌*◌, refl, sym, ap, ◌∙◌, add-one, arith, rules, length-take, length-drop}
use Rattle.writer.proofs.Laws.{appended-none}
use Rattle.testload.specs.Draws.{after, drawn_list}
use Rattle.testload.proofs.Draws.{after-snoc, block_more}
use Rattle.testload.proofs.Generator.put_blocks.Goals as goal

pub loop-i-init : goal.loop-i-init
unfolding after drawn_list
loop-i-init g c = (refl, appended-none c.args.k c.args.out.now, refl)

pub put-requires : goal.put-requires
put-requires g c = simp (length-take, length-drop) (omega arith)

pub loop-i-preserved : goal.loop-i-preserved
loop-i-preserved g c =
    let b = g.B.Drawn in
    let loop = c.loop-i in
    let args = c.args in
    let from = (1 + args.k + loop.i) * 512 in
    let size = from + 512 - from in (
      search rules,
      rw add-one (block_more b.bytes b.after_one args.k loop.i args.self.now.state loop.self.state size args.out.now loop.out c.put.new.block (omega arith)
          (c.put.auto.block ∙ simp (length-take, length-drop) (omega arith)) loop.invariant.1 loop.invariant.2 c.put.ensures.block_after),
      rw add-one (c.put.ensures.state_after ∙ ap b.after_one loop.invariant.2 ∙ sym (after-snoc b.after_one loop.i args.self.now.state)),
    )
