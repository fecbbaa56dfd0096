-- `tracing::put_numbers` meets its contract. The loop's invariant: the first `j` numbers stand in the block.
use mathlib.Core.Path.{refl}
use Rattle.block.specs.Bytes.{fields}
use Rattle.tracing.proofs.put_numbers.Goals as goal

pub loop-j-init : goal.loop-j-init
unfolding fields
loop-j-init c = refl
