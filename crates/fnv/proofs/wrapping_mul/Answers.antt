-- `fnv::wrapping_mul` meets its contract: the product of two numbers below 2 ^ 32 fits a u64, and the rest is the remainder.
use native.Mathlib.Nat.{mul-le-mul, le-pred_of_lt}
use native.Mathlib.Omega.{arith}
use Rattle.fnv.proofs.wrapping_mul.Goals as goal

pub overflow_mul-result : goal.overflow_mul-result
overflow_mul-result c = omega (arith, mul-le-mul (le-pred_of_lt c.ranges.a.fits) (le-pred_of_lt c.ranges.b.fits))
