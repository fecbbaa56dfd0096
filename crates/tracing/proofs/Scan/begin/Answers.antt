-- `tracing::Scan::begin` meets its contract: it goes ahead over a label and its space, or stays.
use mathlib.Core.Path.{sym, ◌∙◌}
use native.Mathlib.Omega.{arith}
use Prim.Native.Nat.{◌-◌}
use lib.ListN.{length, drop, length-drop}
use lib.Seq.{take_all}
use Rattle.tracing.proofs.Going.{line-begun}
use Rattle.tracing.proofs.Scan.begin.Goals as goal

pub returns-then-rest-eq32 : goal.returns-then-rest-eq32
returns-then-rest-eq32 c =
    let s = c.args.self.now in
    let rest = c.args.rest.now in
    rw (take_all (length rest - 2) (drop 2 rest) (rw length-drop (omega arith)))
    (line-begun s rest c.if-self-eq0.true c.if-rest-ge2.true (sym c.is_label.ensures ∙ c.if-is_label.true) c.if-rest-eq32.true)
