-- `fnv::hash_words` meets its contract. The loop's invariant: the chain has reached `at`.
use Rattle.fnv.proofs.Chain.{chain-start}
use Rattle.fnv.proofs.hash_words.Goals as goal

pub loop-part-init : goal.loop-part-init
loop-part-init c = chain-start _ _
