-- `writer::copy_blocks` meets its contract. The loop's invariant: copies of the first `i` blocks are appended.
use Prim.Native.Nat.{◌+◌, ◌-◌, ◌*◌, ◌/◌}
use mathlib.Core.Path.{◌≡◌, refl, ap, ◌∙◌}
use native.Mathlib.Omega.{arith}
use native.Mathlib.Numerals.{add-one}
use lib.ListN.{length, take, drop, length-take, length-drop}
use borrow.Author.Rules.{rules}
use Rattle.block.specs.Blocks.{numbered}
use Rattle.taskfile.specs.File.{blocks_in}
use Rattle.writer.specs.Writing.{bodies}
use Rattle.writer.proofs.Laws.{appended-none, appended-more}
use Rattle.writer.proofs.Copying.{body_at, length-bodies, bodies-snoc}
use Rattle.writer.proofs.copy_blocks.Goals as goal

pub loop-i-init : goal.loop-i-init
unfolding bodies
loop-i-init c =
    let args = c.args in
    (refl, appended-none args.k args.out.now)

pub copy_block-requires : goal.copy_block-requires
copy_block-requires c = (simp (length-take, length-drop) (omega arith), simp (length-take, length-drop) (omega arith))

pub loop-i-preserved : goal.loop-i-preserved
loop-i-preserved c =
    let loop = c.loop-i in
    let args = c.args in
    let from = loop.i * 512 in
    let number = 1 + args.k + loop.i in
    let start = number * 512 in
    let source = c.args.source.now in
    let long : length c.copy_block.new.block ≡ 512 = c.copy_block.auto.block ∙ simp (length-take, length-drop) (omega arith) in
    let body = c.copy_block.ensures ∙ ap (numbered number) (body_at loop.i from (from + 512 - from) source (omega arith) (omega arith)) in (
      search rules,
      rw (add-one, bodies-snoc loop.i source)
          (appended-more args.k start (start + 512 - start) (bodies loop.i source) (take 504 (drop (512 * loop.i) source)) args.out.now loop.out
          c.copy_block.new.block (rw length-bodies (omega arith)) (omega arith) (omega arith) loop.invariant.1 (rw length-bodies body)),
    )

pub returns : goal.returns
unfolding blocks_in
returns c =
    let loop = c.loop-i in
    let all : loop.i ≡ length c.args.source.now / 512 = omega arith in
    rw (← all) loop.invariant.1
