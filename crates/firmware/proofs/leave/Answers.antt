-- `firmware::leave` meets its contract: an accepted plan is stored in the whole block.
use mathlib.Core.Path.{◌∙◌}
use Rattle.planblock.proofs.Storing.{put-accepted}
use Rattle.firmware.proofs.leave.Goals as goal

pub returns-clause-block_after : goal.returns-clause-block_after
returns-clause-block_after c = c.put_plan.ensures ∙ put-accepted c.args.plan c.args.block.now c.requires.0 c.requires.1
