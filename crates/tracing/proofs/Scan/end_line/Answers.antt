-- `tracing::Scan::end_line` meets its contract, by whether the line may end; a count of 64 bits stays at the largest number.
use Prim.Native.Nat.{ℕ, ◌+◌, ◌<◌, min}
use mathlib.Core.Path.{◌≡◌}
use native.Mathlib.Omega.{arith}
use Rattle.std.proofs.lemmas.Bool.Decides.{nat_tests}
use Rattle.tracing.specs.Scans.{one_more, line_ended}
use Rattle.tracing.proofs.Scan.end_line.Goals as goal

counted : (n : ℕ) → n < 18446744073709551616 → min (n + 1) 18446744073709551615 ≡ one_more n
unfolding one_more
counted n h = grind (arith, nat_tests)

pub returns-then-ends_at : goal.returns-then-ends_at
unfolding line_ended
returns-then-ends_at c = rw (c.saturating_add-self.ensures, ← c.ends_at.ensures, c.if-ends_at.true, counted c.args.self.now.records (omega arith))

pub returns-else-ends_at : goal.returns-else-ends_at
unfolding line_ended
returns-else-ends_at c = rw (← c.ends_at.ensures, c.if-ends_at.false) c.stop.ensures
