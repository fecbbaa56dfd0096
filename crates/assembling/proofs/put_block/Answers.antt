-- `assembling::put_block` meets its contract: the reads, and then what else stands in a block of the kind.
use Prim.Native.Nat.{ℕ, ◌-◌}
use mathlib.Core.Path.{◌≡◌, ap, ◌∙◌}
use mathlib.Core.List.{List}
use mathlib.Core.Bool.{true, false}
use lib.ListN.{length, get_or, drop}
use Rattle.block.specs.Blocks.{numbered}
use Rattle.taskfile.specs.File.{basic_bytes, preempter_bytes}
use Rattle.writer.specs.Writing.{stored_reads}
use Rattle.assembling.specs.Steps.{entry_named}
use Rattle.assembling.proofs.Drafting.{reads-behind}
use Rattle.assembling.proofs.put_block.Goals as goal
use Rattle.assembling.proofs.put_block.Goals.{After-put_reads}

-- what the block reads, once its numbers are stored
reads : (c : goal.After-put_reads)
    → let numbers = c.args.numbers.now in
    stored_reads c.put_reads.new.block (length numbers - 1) ≡ drop 1 numbers
reads c = reads-behind c.args.numbers.now c.put_reads.new.block c.put_reads.ensures

pub returns-in-Basic : goal.returns-in-Basic
unfolding entry_named
returns-in-Basic c =
    let args = c.args in
    rw c.in-Basic.is
    (c.close_basic.ensures ∙
    ap (λ (l : List ℕ). numbered args.number (basic_bytes (record { time = get_or args.numbers.now 0 0; armed = false; reads = l }))) (reads (goal.at.returns-in-Basic c).After-put_reads))

pub returns-in-Armed : goal.returns-in-Armed
unfolding entry_named
returns-in-Armed c =
    let args = c.args in
    rw c.in-Armed.is
    (c.close_basic-in-Armed.ensures ∙
    ap (λ (l : List ℕ). numbered args.number (basic_bytes (record { time = get_or args.numbers.now 0 0; armed = true; reads = l }))) (reads (goal.at.returns-in-Armed c).After-put_reads))

pub returns-in-Preempting : goal.returns-in-Preempting
unfolding entry_named
returns-in-Preempting c =
    let args = c.args in
    rw c.in-Preempting.is
    (c.close_preempter.ensures ∙
    ap (λ (l : List ℕ). numbered args.number (preempter_bytes (record { id = get_or args.numbers.now 0 0; reads = l }))) (reads (goal.at.returns-in-Preempting c).After-put_reads))
