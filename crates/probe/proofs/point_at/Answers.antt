-- `probe::point_at` meets its contract: behind the array there is none.
use mathlib.Core.Path.{sym}
use native.Mathlib.Omega.{arith}
use lib.ListN.{get_or-eq_default}
use Rattle.probe.proofs.point_at.Goals as goal

pub returns-else-i-lt16 : goal.returns-else-i-lt16
returns-else-i-lt16 c = sym (get_or-eq_default c.args.points 0 (omega arith))
