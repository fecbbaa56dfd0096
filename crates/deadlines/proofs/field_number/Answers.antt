-- `deadlines::field_number` is safe: a capped number is at most its bound.
use Rattle.std.proofs.Common.{arith}
use Rattle.decimals.proofs.Decimals.{capped-most}
use Rattle.deadlines.proofs.field_number.Goals as goal

pub overflow_cast-result : goal.overflow_cast-result
overflow_cast-result c = let most = rw (← c.in_ok-number.ensures) at (capped-most 16777216 c.args.field.now) in omega (arith, most)
