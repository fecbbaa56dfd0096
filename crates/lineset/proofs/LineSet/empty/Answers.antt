-- `LineSet::empty` meets its contract: every word is 0.
use Rattle.lineset.proofs.Laws.{in-zeros}
use Rattle.lineset.proofs.LineSet.empty.Goals as goal

pub returns : goal.returns
returns c = in-zeros 8
