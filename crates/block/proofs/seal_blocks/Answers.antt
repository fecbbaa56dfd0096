-- `block::seal_blocks` meets its contract. The loop's invariant: four blocks more for each `i` have their checksums, if the first few had.
use Prim.Native.Nat.{◌+◌, ◌-◌, ◌*◌}
use mathlib.Core.Path.{◌≡◌, refl}
use native.Mathlib.Nat.{add-zero}
use native.Mathlib.Omega.{arith}
use lib.ListN.{length-take, length-drop}
use borrow.Author.Rules.{rules}
use Rattle.block.proofs.Sealing.{sealed-more, sealed-all}
use Rattle.block.proofs.seal_blocks.Goals as goal

pub loop-i-init : goal.loop-i-init
loop-i-init c = (refl, λ bs s. rw add-zero s)

pub seal_four-requires : goal.seal_four-requires
seal_four-requires c = simp (length-take, length-drop) (omega arith)

pub loop-i-preserved : goal.loop-i-preserved
loop-i-preserved c =
    let loop = c.loop-i in
    let few = c.seal_few-few.result in
    let sealed = few + 4 * loop.i in
    let from = sealed * 512 in
    let size = from + 2048 - from in
    let next : few + 4 * (loop.i + 1) ≡ sealed + 4 = omega arith in (
      search rules,
      λ bs s. rw next
          (sealed-more 4 sealed c.args.count from size bs loop.file
          c.seal_four.new.blocks (omega arith) (omega arith) (omega arith) (omega arith) (loop.invariant.1 bs s)
          c.seal_four.ensures),
    )

pub returns : goal.returns
returns c =
    let loop = c.loop-i in
    let args = c.args in
    let all : c.seal_few-few.result + 4 * loop.i ≡ args.count = omega arith in
    sealed-all args.count args.file.now loop.file (rw all at (loop.invariant.1 args.file.now c.seal_few-few.ensures.0))
