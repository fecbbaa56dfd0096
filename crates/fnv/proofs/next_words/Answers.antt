-- `fnv::next_words` meets its contract: past zeros, and then a word.
use native.Mathlib.Omega.{arith}
use Rattle.fnv.proofs.Chain.{chain-word}
use Rattle.fnv.proofs.next_words.Goals as goal

pub returns : goal.returns
returns c =
    let past = c.past_zeros-parts.ensures in
    let mixed = c.mixed_four-states.ensures in (
      record {
        first = chain-word past.0.first mixed.first (omega arith);
        second = chain-word past.0.second mixed.second (omega arith);
        third = chain-word past.0.third mixed.third (omega arith);
        fourth = chain-word past.0.fourth mixed.fourth (omega arith);
      },
      omega arith,
    )
