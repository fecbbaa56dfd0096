-- `testload::Generator::draw` meets its contract: it computes the definition.
use Rattle.std.proofs.Common.{refl}
use Rattle.testload.specs.Draws.{next, draw}
use Rattle.testload.proofs.Generator.draw.Goals as goal

pub returns : goal.returns
unfolding next draw
returns c = (refl, refl)
