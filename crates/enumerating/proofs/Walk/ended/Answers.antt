-- `enumerating::Walk::ended` meets its contract: the sums are small enough for their widths.
use Prim.Native.Nat.{◌+◌, ◌*◌}
use mathlib.Core.Path.{refl}
use native.Mathlib.Omega.{arith}
use Rattle.enumerating.proofs.Walk.ended.Goals as goal

pub overflow_add-result : goal.overflow_add-result
overflow_add-result c =
    record { fits = omega (arith, c.requires.small.0.few (17 * c.args.self.from + c.args.to)) }

pub overflow_add-result-2 : goal.overflow_add-result-2
overflow_add-result-2 c =
    record { fits = omega (arith, c.requires.small.0.small (17 * c.args.self.from + c.args.to)) }

pub returns : goal.returns
returns c = record { fits_value = refl; from_value = refl; lines_value = refl; cost_value = refl }
