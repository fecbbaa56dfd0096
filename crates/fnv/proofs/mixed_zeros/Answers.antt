-- `fnv::mixed_zeros` meets its contract.
use mathlib.Core.Path.{◌∙◌}
use Rattle.fnv.proofs.Zeros.{zeros-power}
use Rattle.fnv.proofs.mixed_zeros.Goals as goal

pub returns : goal.returns
returns g c = c.wrapping_mul.ensures ∙ zeros-power g.row.N c.args.power c.args.state c.requires c.ranges.state.fits
