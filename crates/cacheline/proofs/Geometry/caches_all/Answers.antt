-- `cacheline::Geometry::caches_all` meets its contract: the range has the count that the geometry
-- has.
use mathlib.Core.Path.{refl}
use Rattle.cacheline.proofs.Geometry.caches_all.Goals as goal

pub returns : goal.returns
returns c = λ t of. rw of.bypassing refl
