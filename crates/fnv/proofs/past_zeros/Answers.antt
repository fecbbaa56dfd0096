-- `fnv::past_zeros` meets its contract. The loop's invariant: each of the four chains has reached `at`, no lower than from.
use mathlib.Core.Path.{◌≡◌}
use native.Mathlib.Omega.{arith}
use Rattle.fnv.proofs.Chain.{chain-zeros}
use Rattle.fnv.proofs.past_zeros.Goals as goal

pub loop-at-preserved : goal.loop-at-preserved
loop-at-preserved c =
    let none : c.any_at.result ≡ 0 = omega arith in
    let zeros = c.any_at.ensures in
    let inv = c.loop-at.invariant in
    let reached = inv.0 in
    let lengths = inv.1 in
    let mixed = c.four_zeros-mixed.ensures in (
      record {
        first = chain-zeros 8 reached.first mixed.first (omega arith) (zeros.0 none);
        second = chain-zeros 8 reached.second mixed.second (omega arith) (zeros.1 none);
        third = chain-zeros 8 reached.third mixed.third (omega arith) (zeros.2 none);
        fourth = chain-zeros 8 reached.fourth mixed.fourth (omega arith) (zeros.3 none);
      },
      lengths,
      omega arith,
    )
