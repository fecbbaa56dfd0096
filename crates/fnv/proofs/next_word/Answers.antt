-- `fnv::next_word` meets its contract: a word, and then zeros.
use native.Mathlib.Omega.{arith}
use Rattle.fnv.proofs.Chain.{chain-word}
use Rattle.fnv.proofs.next_word.Goals as goal

pub past_pairs-requires : goal.past_pairs-requires
past_pairs-requires c = chain-word c.requires.0 c.mixed_word-state.ensures (omega arith)
