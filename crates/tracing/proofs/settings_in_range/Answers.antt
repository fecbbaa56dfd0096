-- `tracing::settings_in_range` meets its contract, by its bounds.
use Rattle.std.proofs.Common.{arith}
use Rattle.std.proofs.lemmas.Bool.Decides.{nat_tests}
use Rattle.tracing.specs.Calls.{settings_in_range}
use Rattle.tracing.proofs.settings_in_range.Goals as goal

pub returns-then-settings-ge1-3 : goal.returns-then-settings-ge1-3
unfolding settings_in_range
returns-then-settings-ge1-3 c = grind (arith, nat_tests)

pub returns-else-settings-ge1-3 : goal.returns-else-settings-ge1-3
unfolding settings_in_range
returns-else-settings-ge1-3 c = grind (arith, nat_tests)
