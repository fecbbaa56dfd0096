-- `tracing::Scan::add_byte` meets its contract, column by column.
use mathlib.Core.Path.{sym, ◌∙◌}
use native.Mathlib.Omega.{arith}
use borrow.Author.Tests.{ne_eqb}
use Rattle.tracing.specs.Din.{is_space}
use Rattle.tracing.proofs.Columns.{label-right, space-right, digit-right, none_right, not-added}
use Rattle.tracing.proofs.Going.{label-added, space-added}
use Rattle.tracing.proofs.Scan.add_byte.Goals as goal
use Rattle.tracing.proofs.Scan.add_byte.Goals.{in_default-via-in-0+else-is_label, in_default-via-in-1+else-byte-eq32, in_default-via-in-2-to-9+else-is_hex, in_default-via-in_default+else-self-lt10}

pub returns-in-0 : goal.returns-in-0
returns-in-0 c = label-added c.args.self.now c.args.byte c.in-0.is (sym c.is_label.ensures ∙ c.if-is_label.true)

pub returns-in-1 : goal.returns-in-1
returns-in-1 c = space-added c.args.self.now c.args.byte c.in-1.is c.if-byte-eq32.true

pub returns-in_default : goal.returns-in_default
unfolding is_space
returns-in_default c =
    let s = c.args.self.now in
    let b = c.args.byte in
    c.stop.ensures ∙ elim c.in_default.branch [
      | in_default-via-in-0+else-is_label w ↦ not-added s b (label-right s.column b w.in-0.is ∙ sym w.is_label.ensures ∙ w.if-is_label.false)
      | in_default-via-in-1+else-byte-eq32 w ↦ not-added s b (space-right s.column b w.in-1.is ∙ ne_eqb b 32 w.if-byte-eq32.false)
      | in_default-via-in-2-to-9+else-is_hex w ↦ not-added s b (digit-right s.column b (omega arith) (omega arith) ∙ sym w.is_hex.ensures ∙ w.if-is_hex.false)
      | in_default-via-in_default+else-self-lt10 w ↦ not-added s b (none_right s.column b (omega arith))
    ]
