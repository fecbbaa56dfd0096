-- `demand::Columns::blocked_at` meets its contract. The loop's invariant: the greatest region and the least deadline among the tasks passed with a
-- deadline above t.
use Rattle.std.proofs.Common.{rules}
use Rattle.demand.proofs.Joined.{joined-none, joined-more}
use Rattle.demand.proofs.Columns.blocked_at.Goals as goal

pub loop-i-init : goal.loop-i-init
loop-i-init c = (joined-none _ _ _, joined-none _ _ _)

pub loop-i-preserved : goal.loop-i-preserved
loop-i-preserved c =
    let inv = c.loop-i.invariant in (
      joined-more _ _ _ _ inv.0 c.while_above.ensures (search rules),
      joined-more _ _ _ _ inv.1 c.while_above-in-loop-i.ensures (search rules),
    )
