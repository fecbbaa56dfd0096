-- `block::put_u32s` meets its contract. The loop's invariant: the first `i` numbers are stored, and else the bytes are as they were.
use Prim.Native.Nat.{◌+◌, ◌*◌}
use mathlib.Core.Path.{◌≡◌, refl}
use mathlib.Core.List.{append-nil}
use native.Mathlib.Nat.{add-zero}
use native.Mathlib.Omega.{arith}
use native.Mathlib.Numerals.{add-one}
use lib.ListN.{length, take}
use lib.Seq.{take_all}
use borrow.Author.Rules.{rules}
use Rattle.block.specs.Bytes.{les}
use Rattle.block.proofs.Storing.{stored-none, stored_next}
use Rattle.block.proofs.put_u32s.Goals as goal

pub loop-i-init : goal.loop-i-init
unfolding les
loop-i-init c =
    let args = c.args in
    (search rules, refl, rw (add-zero, append-nil) (stored-none args.at args.bytes.now (omega arith)))

pub loop-i-preserved : goal.loop-i-preserved
loop-i-preserved c =
    let loop = c.loop-i in
    let args = c.args in
    let next : args.at + 4 * loop.i + 4 ≡ args.at + 4 * (loop.i + 1) = omega arith in (
      search rules,
      search rules,
      rw (← next, add-one) (stored_next 4 args.values.now (take args.at args.bytes.now) loop.i (omega arith) loop.invariant.2 c.put_u32.ensures),
    )

pub returns : goal.returns
returns c =
    let loop = c.loop-i in
    let values = c.args.values.now in
    let all : loop.i ≡ length values = omega arith in
    rw (all, take_all (length values) values (omega arith)) at loop.invariant.2.bytes
