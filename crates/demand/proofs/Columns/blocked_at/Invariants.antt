-- `demand::Columns::blocked_at` meets its contract. The loop's invariant: the greatest region and the least deadline among the tasks passed with a
-- deadline above t.
use Rattle.std.proofs.Common.{◌≡◌, min, max}
use Rattle.demand.specs.Lanes.{below, latest, blocked_by, ended_by}
use Rattle.demand.proofs.Columns.blocked_at.Given as goal

abbrev pub invariant-loop-i : goal.invariant-loop-i
invariant-loop-i l = (l.region ≡ below max 0 l.i (blocked_by l.self.deadlines l.self.regions l.t)) × (l.until ≡ below min latest l.i (ended_by l.self.deadlines l.t))
