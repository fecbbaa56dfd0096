-- `tracing::Scan::read_digits` meets its contract. The loop's invariant: the scan went ahead over the digits so far, a column for each.
use mathlib.Core.Path.{sym, ap, ◌∙◌}
use Prim.Native.Nat.{◌-◌}
use lib.ListN.{length}
use native.Mathlib.Omega.{arith}
use Rattle.tracing.specs.declared.Scan.{Scan}
use Rattle.tracing.proofs.Numbers.{smaller}
use Rattle.tracing.proofs.Going.{digit-read, digit-column}
use Rattle.tracing.proofs.Scan.read_digits.Goals as goal

pub loop-i-preserved : goal.loop-i-preserved
loop-i-preserved c =
    let loop = c.loop-i in
    let most = c.min-most.ensures ∙ smaller (length c.args.rest.now) (10 - c.args.self.now.column) in
    let hex = sym c.is_hex.ensures ∙ c.if-not-is_hex.false in
    let column = ap (λ (s : Scan). s.column) c.add_digit.ensures ∙ digit-column loop.self _ (omega arith) (omega arith) hex in
    (omega arith, rw c.add_digit.ensures (digit-read c.args.self.now c.args.rest.now loop.self loop.i loop.invariant.1 (omega arith) hex))
