-- `tracing::Scan::start` meets its contract: it is the scan that has started.
use mathlib.Core.Path.{refl}
use Rattle.tracing.specs.Scans.{started}
use Rattle.tracing.proofs.Scan.start.Goals as goal

pub returns : goal.returns
unfolding started
returns c = refl
