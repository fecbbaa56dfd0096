-- `tracing::put_numbers` meets its contract. The loop's invariant: the first `j` numbers stand in the block.
use Prim.Native.Nat.{◌/◌}
use mathlib.Core.Path.{◌≡◌}
use mathlib.Core.List.{map}
use lib.ListN.{take}
use Rattle.writer.specs.Writing.{stored_reads}
use Rattle.tracing.proofs.put_numbers.Given as goal

abbrev pub invariant-loop-j : goal.invariant-loop-j
invariant-loop-j l = stored_reads l.block l.j ≡ map (λ a. a / l.size) (take l.j l.addresses)
