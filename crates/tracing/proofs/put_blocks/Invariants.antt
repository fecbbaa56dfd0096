-- `tracing::put_blocks` meets its contract. The loop's invariant: the first `i` blocks are appended.
use mathlib.Core.List.{map}
use Rattle.taskfile.specs.File.{collect, basic_bytes}
use Rattle.writer.specs.Writing.{Appended}
use Rattle.tracing.specs.Traces.{traced_block, group_at}
use Rattle.tracing.proofs.put_blocks.Given as goal

abbrev pub invariant-loop-i : goal.invariant-loop-i
invariant-loop-i l =
    Appended 0 (map basic_bytes (collect (λ i. traced_block l.settings (group_at l.settings.group l.addresses i)) 0 l.i)) l.initial.out l.out
