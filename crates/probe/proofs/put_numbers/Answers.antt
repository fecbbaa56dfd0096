-- `probe::put_numbers` meets its contract. The loop's invariant: the buffer begins with the first `i` numbers.
use Prim.Native.Nat.{◌+◌, ◌*◌}
use mathlib.Core.Path.{◌≡◌, sym, ◌∙◌}
use mathlib.Core.List.{[]}
use native.Mathlib.Omega.{arith}
use native.Mathlib.Numerals.{add-one}
use lib.ListN.{length}
use lib.Seq.{take_all}
use borrow.Author.Rules.{rules}
use Rattle.block.specs.Bytes.{les}
use Rattle.block.proofs.Storing.{stored-none, stored-first, stored_next}
use Rattle.probe.proofs.put_numbers.Goals as goal

pub loop-i-init : goal.loop-i-init
unfolding les
loop-i-init c = (search rules, search rules, stored-none 0 c.args.out.now (omega arith))

pub loop-i-preserved : goal.loop-i-preserved
loop-i-preserved c =
    let loop = c.loop-i in
    let next : 8 * loop.i + 8 ≡ 8 * (loop.i + 1) = omega arith in (
      search rules,
      search rules,
      rw (← next, add-one) (stored_next 8 c.args.numbers.now [] loop.i (omega arith) loop.invariant.2 c.put_u64.ensures),
    )

pub returns : goal.returns
returns c =
    let loop = c.loop-i in
    let numbers = c.args.numbers.now in
    let all : loop.i ≡ length numbers = omega arith in
    let stored = rw (all, take_all (length numbers) numbers (omega arith)) at (stored-first loop.invariant.2) in
    sym (take_all (8 * length numbers) loop.out (omega arith)) ∙ stored
