-- `planblock::put_points` meets its contract. The loop's invariant: the buffer begins with its first 20 bytes and the first `i` points.
use Prim.Native.Nat.{◌+◌, ◌*◌}
use mathlib.Core.Path.{◌≡◌}
use native.Mathlib.Omega.{arith}
use native.Mathlib.Numerals.{add-one}
use lib.ListN.{take}
use borrow.Author.Rules.{rules}
use Rattle.block.proofs.Storing.{stored-first, stored_next}
use Rattle.planblock.proofs.Storing.{points_none}
use Rattle.planblock.proofs.put_points.Goals as goal

pub loop-i-init : goal.loop-i-init
loop-i-init c = (search rules, search rules, search rules, points_none c.args.points c.args.out.now (omega arith))

pub loop-i-preserved : goal.loop-i-preserved
loop-i-preserved c =
    let loop = c.loop-i in
    let next : 20 + 2 * loop.i + 2 ≡ 20 + 2 * (loop.i + 1) = omega arith in (
      search rules,
      search rules,
      search rules,
      rw (← next, add-one)
          (stored_next 2 c.args.points (take 20 c.args.out.now) loop.i (omega arith) loop.invariant.3 c.put_u16.ensures),
    )

pub returns : goal.returns
returns c =
    let loop = c.loop-i in
    let all : loop.i ≡ c.args.count = omega arith in
    rw all at (stored-first loop.invariant.3)
