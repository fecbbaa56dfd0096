-- What `capped_decimal` answers is at most its bound.
use Rattle.decimals.proofs.Decimals.{capped-most}
use Rattle.desk.proofs.capped_argument.Goals as goal

pub returns : goal.returns
returns g c = rw c.capped_decimal.ensures (capped-most _ _)
