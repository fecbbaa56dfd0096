-- `tracing::Scan::over` meets its contract. The loop's invariant: the bytes that are left, scanned on, come to what all bytes come to.
use mathlib.Core.Path.{◌≡◌}
use lib.ListN.{length}
use Rattle.tracing.specs.Scans.{scanned, kept}
use Rattle.tracing.proofs.Scan.over.Given as goal

abbrev pub invariant-loop-byte : goal.invariant-loop-byte
invariant-loop-byte l =
    (scanned l.self l.rest ≡ scanned l.fn.self l.piece) × (kept l.self l.rest l.addresses ≡ kept l.fn.self l.piece l.fn.addresses)

abbrev pub decreases-loop-byte : goal.decreases-loop-byte
decreases-loop-byte l = length l.rest
