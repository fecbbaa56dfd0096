-- `demand::Columns::least_deadline` meets its contract. The loop's invariant: the least of the deadlines passed.
use Rattle.std.proofs.Common.{refl, rules}
use Rattle.demand.proofs.Joined.{joined-none, joined-more}
use Rattle.demand.proofs.Columns.least_deadline.Goals as goal

pub loop-i-init : goal.loop-i-init
loop-i-init c = joined-none _ _ _

pub loop-i-preserved : goal.loop-i-preserved
loop-i-preserved c = joined-more _ _ _ _ c.loop-i.invariant refl (search rules)
