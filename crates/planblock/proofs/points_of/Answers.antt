-- `planblock::points_of` meets its contract. The loop's invariant: the first `i` points are read, and zeros follow.
use mathlib.Core.Path.{◌≡◌}
use native.Mathlib.Omega.{arith}
use native.Mathlib.Numerals.{add-one}
use borrow.Author.Rules.{rules}
use Rattle.block.specs.Bytes.{fields}
use Rattle.planblock.proofs.Reading.{point-read}
use Rattle.planblock.proofs.points_of.Goals as goal

pub loop-i-init : goal.loop-i-init
unfolding fields
loop-i-init c = search rules

pub loop-i-preserved : goal.loop-i-preserved
loop-i-preserved c =
    let loop = c.loop-i in
    let bytes = c.args.bytes.now in (
      search rules,
      rw (add-one, c.u16_at.ensures) (point-read bytes loop.points loop.i (omega arith) loop.invariant.1),
    )

pub returns : goal.returns
returns c =
    let all : c.loop-i.i ≡ c.args.count = omega arith in
    rw all at c.loop-i.invariant.1
