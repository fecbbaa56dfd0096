-- `assembling::with_entry` meets its contract: the block is stored behind the others, and counted.
use native.Mathlib.Omega.{arith}
use Prim.Native.Nat.{ℕ, ◌+◌, ◌-◌, ◌*◌, ◌≤◌}
use mathlib.Core.Path.{◌≡◌, ◌∙◌}
use lib.ListN.{length, length-take, length-drop}
use Rattle.assembling.proofs.Drafting.{room-left, entry_more}
use Rattle.assembling.proofs.with_entry.Goals as goal
use Rattle.assembling.proofs.with_entry.Goals.{Start}

number_is : {b p b' p' : ℕ} → b ≡ b' → p ≡ p' → 1 + b + p ≡ 1 + (b' + p')
number_is e f = omega arith

-- a file has room for the block
left : (c : goal.Start) → c.args.known.blocks + c.args.known.preempters ≤ 95
left c = room-left c.args.kind _ _ c.requires.preempters_value.0 c.requires.preempters_value.1 c.requires.preempters_value.2

pub slice_bounds-put_block-end : goal.slice_bounds-put_block-end
slice_bounds-put_block-end c = let few = left (goal.at.slice_bounds-put_block-end c).Start in omega arith

pub returns : goal.returns
returns c =
    let known = c.args.known in
    let number = 1 + known.blocks + known.preempters in
    let from = number * 512 in
    let few = left (goal.at.returns c).Start in
    let put = c.put_block in
    let long : length c.put_block.new.block ≡ 512 = c.put_block.auto.block ∙ simp (length-take, length-drop) (omega arith) in record {
      knows = λ d knows stored. (
        c.counted.ensures.0 d c.args.numbers.now knows,
        entry_more d c.args.kind c.args.numbers.now c.args.file.now c.put_block.new.block from (from + 512 - from)
            (rw (knows.blocks, knows.preempters) at c.requires.preempters_value.0) (omega (arith, knows.blocks, knows.preempters)) (omega arith) long stored
            (rw (number_is knows.blocks knows.preempters) at put.ensures),
      );
      blocks_bound = (c.counted.ensures.1, c.counted.ensures.2);
    }
