-- `tracing::Scan::keep` meets its contract, by what the byte is, whether the line ends there, and whether there is room.
use mathlib.Core.Path.{sym}
use borrow.Author.Tests.{eq-eqb, ne_eqb}
use lib.Seq.{set_out}
use Rattle.tracing.specs.Scans.{kept_after}
use Rattle.tracing.proofs.Scan.keep.Goals as goal
use Rattle.tracing.proofs.Scan.keep.Goals.{else-byte-eq10-via-then-byte-eq10+then-ends_at+else-self-addresses, else-byte-eq10-via-then-byte-eq10+else-ends_at, else-byte-eq10-via-else-byte-eq10}

pub returns-then-self-addresses : goal.returns-then-self-addresses
unfolding kept_after
returns-then-self-addresses c = rw (eq-eqb _ 10 c.if-byte-eq10.true, ← c.ends_at.ensures, c.if-ends_at.true)

pub returns-else-byte-eq10 : goal.returns-else-byte-eq10
unfolding kept_after
returns-else-byte-eq10 c =
    elim c.else-byte-eq10.branch [
      | else-byte-eq10-via-then-byte-eq10+then-ends_at+else-self-addresses w ↦
          rw (eq-eqb _ 10 w.if-byte-eq10.true, ← w.ends_at.ensures, w.if-ends_at.true) (sym (set_out _ _ _ w.if-self-addresses.false))
      | else-byte-eq10-via-then-byte-eq10+else-ends_at w ↦ rw (eq-eqb _ 10 w.if-byte-eq10.true, ← w.ends_at.ensures, w.if-ends_at.false)
      | else-byte-eq10-via-else-byte-eq10 w ↦ rw (ne_eqb _ 10 w.if-byte-eq10.false)
    ]
