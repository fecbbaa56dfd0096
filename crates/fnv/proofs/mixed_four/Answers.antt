-- `fnv::mixed_four` meets its contract. The loop's invariant: each of the four chains has reached `i`.
use native.Mathlib.Omega.{arith}
use Rattle.fnv.proofs.Chain.{chain-start, chain_next, chain-end}
use Rattle.fnv.proofs.mixed_four.Goals as goal

pub loop-i-init : goal.loop-i-init
loop-i-init c = (chain-start _ _, chain-start _ _, chain-start _ _, chain-start _ _)

pub loop-i-preserved : goal.loop-i-preserved
loop-i-preserved c =
    let chains = c.loop-i.invariant in (
      chain_next chains.0 c.mixed-state_a.ensures (omega arith),
      chain_next chains.1 c.mixed-state_b.ensures (omega arith),
      chain_next chains.2 c.mixed-state_c.ensures (omega arith),
      chain_next chains.3 c.mixed-state_d.ensures (omega arith),
    )

pub returns : goal.returns
returns c =
    let chains = c.loop-i.invariant in
    record {
      first = chain-end chains.0 (omega arith);
      second = chain-end chains.1 (omega arith);
      third = chain-end chains.2 (omega arith);
      fourth = chain-end chains.3 (omega arith);
    }
