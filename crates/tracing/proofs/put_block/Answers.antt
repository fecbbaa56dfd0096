-- `tracing::put_block` meets its contract: the numbers are stored, and then what else stands in the block.
use Prim.Native.Nat.{ℕ, ◌*◌}
use mathlib.Core.Path.{ap, ◌∙◌}
use mathlib.Core.Bool.{false}
use mathlib.Core.List.{List}
use lib.ListN.{length}
use Rattle.block.specs.Blocks.{numbered}
use Rattle.taskfile.specs.File.{basic_bytes}
use Rattle.tracing.specs.Traces.{traced_block}
use Rattle.tracing.proofs.put_block.Goals as goal

pub returns : goal.returns
unfolding traced_block
returns c =
    let args = c.args in
    let time = length args.addresses.now * args.settings.ticks in
    c.close_basic.ensures ∙
    ap (λ (reads : List ℕ). numbered args.number (basic_bytes (record { time = time; armed = false; reads = reads })))
    c.put_numbers.ensures
