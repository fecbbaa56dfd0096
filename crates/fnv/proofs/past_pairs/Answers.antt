-- `fnv::past_pairs` meets its contract. The loop's invariant: the chain has reached `at`, no lower than from.
use native.Mathlib.Omega.{arith}
use Rattle.fnv.proofs.Chain.{chain-zeros}
use Rattle.fnv.proofs.past_pairs.Goals as goal

pub overflow_sub-bytes : goal.overflow_sub-bytes
overflow_sub-bytes c = omega (arith, c.loop-at.invariant.0.within)

pub returns-then-pair_at-ne0 : goal.returns-then-pair_at-ne0
returns-then-pair_at-ne0 c = c.loop-at.invariant

pub loop-at-preserved : goal.loop-at-preserved
loop-at-preserved c =
    let inv = c.loop-at.invariant in
    (chain-zeros 16 inv.0 c.mixed_zeros-state.ensures (omega arith) (c.pair_at.ensures (omega arith)), omega arith)

pub returns : goal.returns
returns c = c.loop-at.invariant
