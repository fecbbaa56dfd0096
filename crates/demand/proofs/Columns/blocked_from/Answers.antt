-- `demand::Columns::blocked_from` meets its contract.
use Rattle.demand.proofs.Blocking.{blocks-until}
use Rattle.demand.proofs.Columns.blocked_from.Goals as goal

pub returns-then-blocked-t : goal.returns-then-blocked-t
returns-then-blocked-t c =
    blocks-until c.args.self.now.count c.args.self.now.deadlines c.args.self.now.regions c.args.t _ c.blocked_at.ensures.region_value c.blocked_at.ensures.until_value c.requires.2
