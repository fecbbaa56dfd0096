-- `tracing::is_label` meets its contract, by its two bounds.
use Rattle.std.proofs.Common.{arith}
use Rattle.std.proofs.lemmas.Bool.Decides.{nat_tests}
use Rattle.tracing.specs.Din.{is_label}
use Rattle.tracing.proofs.is_label.Goals as goal

pub returns-then-byte-ge48 : goal.returns-then-byte-ge48
unfolding is_label
returns-then-byte-ge48 c = grind (arith, nat_tests)

pub returns-else-byte-ge48 : goal.returns-else-byte-ge48
unfolding is_label
returns-else-byte-ge48 c = grind (arith, nat_tests)
