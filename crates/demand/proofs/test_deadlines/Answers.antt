-- `demand::test_deadlines` meets its contract: a loaded set answers as its list does.
use Rattle.std.proofs.Common.{◌∙◌}
use Rattle.demand.proofs.Loaded.{loaded-answer}
use Rattle.demand.proofs.test_deadlines.Goals as goal

pub returns : goal.returns
returns c = rw c.load.ensures at c.test_set.ensures ∙ loaded-answer _ _
