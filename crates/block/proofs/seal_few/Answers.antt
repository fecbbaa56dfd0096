-- `block::seal_few` meets its contract. The loop's invariant: the first `k` blocks have their checksums.
use Prim.Native.Nat.{◌+◌, ◌-◌, ◌*◌, ◌%◌}
use mathlib.Core.Path.{◌≡◌, refl, ◌∙◌}
use native.Mathlib.Omega.{arith}
use lib.ListN.{length-take, length-drop}
use borrow.Author.Rules.{rules}
use Rattle.block.proofs.Sealing.{sealed-none, sealed-more, sealed-one}
use Rattle.block.proofs.seal_few.Goals as goal

pub loop-k-init : goal.loop-k-init
loop-k-init c = (omega arith, refl, refl, sealed-none c.args.file.now c.args.count)

pub seal-requires : goal.seal-requires
seal-requires c = simp (length-take, length-drop) (omega arith)

pub loop-k-preserved : goal.loop-k-preserved
loop-k-preserved c =
    let loop = c.loop-k in
    let args = c.args in (
      omega arith,
      refl,
      search rules,
      sealed-more 1 loop.k args.count (loop.k * 512) (loop.k * 512 + 512 - loop.k * 512) args.file.now loop.file c.seal.new.block
          (omega arith) (omega arith) (omega arith) (omega arith) loop.invariant.3 (c.seal.ensures ∙ sealed-one _),
    )

pub returns : goal.returns
returns c =
    let all : c.loop-k.k ≡ c.args.count % 4 = omega arith in
    (rw all at c.loop-k.invariant.3, omega arith)
