-- `fnv::hash_four` meets its contract: the words, and then what is left.
use Rattle.fnv.specs.Fnv.{fnv1a}
use Rattle.fnv.proofs.Chain.{chain-rest}
use Rattle.fnv.proofs.hash_four.Goals as goal

pub returns : goal.returns
unfolding fnv1a
returns c =
    let words = c.hash_four_words-parts.ensures in
    let rest = c.mixed_four.ensures in (
      chain-rest words.first rest.first,
      chain-rest words.second rest.second,
      chain-rest words.third rest.third,
      chain-rest words.fourth rest.fourth,
    )
