-- `tracing::blocks_for` meets its contract: it computes the definition.
use mathlib.Core.Path.{refl}
use Rattle.tracing.specs.Traces.{blocks_for}
use Rattle.tracing.proofs.blocks_for.Goals as goal

pub returns : goal.returns
unfolding blocks_for
returns c = refl
