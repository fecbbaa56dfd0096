-- `planvalue::check` meets its contract: the range is tested first, and then the entries.
use mathlib.Core.Path.{sym, ◌∙◌}
use Rattle.planvalue.specs.Values.{plan_verdict}
use Rattle.planvalue.proofs.check.Goals as goal

pub returns-then-not-in_range : goal.returns-then-not-in_range
unfolding plan_verdict
returns-then-not-in_range c = rw (← c.in_range.ensures, c.if-not-in_range.true)

pub check_points-requires : goal.check_points-requires
check_points-requires c = sym c.in_range.ensures ∙ c.if-not-in_range.false

pub returns : goal.returns
unfolding plan_verdict
returns c =
    rw (← c.in_range.ensures, c.if-not-in_range.false) c.check_points.ensures
