-- `tracing::ends_at` meets its contract, by its two bounds.
use Rattle.std.proofs.Common.{arith}
use Rattle.std.proofs.lemmas.Bool.Decides.{nat_tests}
use Rattle.tracing.specs.Scans.{ends_at}
use Rattle.tracing.proofs.ends_at.Goals as goal

pub returns-then-column-ge3 : goal.returns-then-column-ge3
unfolding ends_at
returns-then-column-ge3 c = grind (arith, nat_tests)

pub returns-else-column-ge3 : goal.returns-else-column-ge3
unfolding ends_at
returns-else-column-ge3 c = grind (arith, nat_tests)
