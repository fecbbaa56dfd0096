-- `fnv::hash` meets its contract: the words, and then what is left.
use Rattle.fnv.specs.Fnv.{fnv1a}
use Rattle.fnv.proofs.Chain.{chain-rest}
use Rattle.fnv.proofs.hash.Goals as goal

pub returns : goal.returns
unfolding fnv1a
returns c =
    let words = c.hash_words-part in
    chain-rest words.ensures c.mixed_all.ensures
