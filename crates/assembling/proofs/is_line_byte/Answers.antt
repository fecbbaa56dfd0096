-- `assembling::is_line_byte` meets its contract.
use mathlib.Core.Path.{refl}
use Rattle.assembling.specs.Words.{is_line_byte}
use Rattle.assembling.proofs.is_line_byte.Goals as goal

pub returns : goal.returns
unfolding is_line_byte
returns c = refl
