-- `cacheline::power_for` meets its contract: the greatest power of two that is at most the count, times 2 ^ 32.
use Prim.Native.Nat.{ℕ, ◌+◌, ◌*◌, ◌%◌, ◌^◌, ◌<◌, ◌≤◌}
use mathlib.Core.Path.{◌≡◌}
use native.Mathlib.Nat.{lt_of_not-le}
use native.Mathlib.Omega.{arith}
use lib.Pow.{pow-lt, pow-add}
use Rattle.std.proofs.lemmas.Nat.{one_shl}
use Rattle.cacheline.proofs.power_for.Goals as goal

-- a power up to 512
narrow : (k : ℕ) → 2 ^ k ≤ 512 → k < 10
narrow k most = lt_of_not-le (λ (h : 10 ≤ k). omega (arith, pow-lt {i = 9} {j = k} (omega arith)))

pub overflow_shl-result : goal.overflow_shl-result
overflow_shl-result c =
    omega (arith, narrow c.ilog2-shift.result (omega (arith, c.ilog2-shift.ensures.power_le, c.requires.1)))

pub returns : goal.returns
returns c =
    let k = c.ilog2-shift.result in
    let small : k < 10 = narrow k (omega (arith, c.ilog2-shift.ensures.power_le, c.requires.1)) in
    let value : 1 * 2 ^ (32 + k) % 18446744073709551616 ≡ 2 ^ (32 + k) = one_shl (32 + k) 64 (omega arith) in
    let parts : 2 ^ (32 + k) ≡ 2 ^ 32 * 2 ^ k = pow-add 2 32 k in
    record {
      value = value;
      most = omega (arith, value, parts, c.ilog2-shift.ensures.power_le);
      greatest = omega (arith, value, parts, c.ilog2-shift.ensures.next_power_gt);
      wide = omega arith;
      narrow = omega arith;
    }
