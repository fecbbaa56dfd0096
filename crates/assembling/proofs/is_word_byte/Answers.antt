-- `assembling::is_word_byte` meets its contract.
use Rattle.assembling.specs.Words.{is_hash, is_word_byte}
use Rattle.assembling.proofs.is_word_byte.Goals as goal

pub returns : goal.returns
unfolding is_word_byte is_hash
returns c = rw c.is_blank.ensures
