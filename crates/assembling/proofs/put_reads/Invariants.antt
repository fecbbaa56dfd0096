-- `assembling::put_reads` meets its contract. The loop's invariant: the first `j` numbers stand in the block.
use mathlib.Core.Path.{◌≡◌}
use lib.ListN.{take}
use Rattle.writer.specs.Writing.{stored_reads}
use Rattle.assembling.proofs.put_reads.Given as goal

abbrev pub invariant-loop-j : goal.invariant-loop-j
invariant-loop-j l = stored_reads l.block l.j ≡ take l.j l.numbers
