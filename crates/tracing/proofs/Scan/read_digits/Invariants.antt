-- `tracing::Scan::read_digits` meets its contract. The loop's invariant: the scan went ahead over the digits so far, a column for each.
use Prim.Native.Nat.{◌+◌}
use mathlib.Core.Path.{◌≡◌}
use lib.ListN.{drop}
use Rattle.tracing.specs.Scans.{Ahead}
use Rattle.tracing.proofs.Scan.read_digits.Given as goal

abbrev pub invariant-loop-i : goal.invariant-loop-i
invariant-loop-i l = (l.self.column ≡ l.column + l.i) × Ahead l.initial.self l.rest l.self (drop l.i l.rest)
