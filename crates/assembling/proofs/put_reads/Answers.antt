-- `assembling::put_reads` meets its contract. The loop's invariant: the first `j` numbers stand in the block.
use mathlib.Core.Path.{refl}
use Rattle.block.specs.Bytes.{fields}
use Rattle.assembling.proofs.put_reads.Goals as goal

pub loop-j-init : goal.loop-j-init
unfolding fields
loop-j-init c = refl
