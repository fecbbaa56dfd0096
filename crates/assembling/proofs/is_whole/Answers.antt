-- `assembling::is_whole` meets its contract.
use mathlib.Core.Path.{refl}
use Rattle.assembling.proofs.is_whole.Goals as goal

pub returns : goal.returns
returns c = λ d knows. rw (knows.given, knows.blocks) refl
