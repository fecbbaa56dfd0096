-- `fnv::mixed_word` meets its contract: eight zeros, or byte after byte.
use Rattle.fnv.proofs.mixed_word.Goals as goal

pub returns-then-is_zero_word : goal.returns-then-is_zero_word
returns-then-is_zero_word c =
    rw (c.is_zero_word.ensures c.if-is_zero_word.true) c.mixed_zeros.ensures
