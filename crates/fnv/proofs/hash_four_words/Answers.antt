-- `fnv::hash_four_words` meets its contract. The loop's invariant: each of the four chains has reached `parts.at`.
use Rattle.fnv.proofs.Chain.{chain-start}
use Rattle.fnv.proofs.hash_four_words.Goals as goal

pub loop-parts-init : goal.loop-parts-init
loop-parts-init c = record { first = chain-start _ _; second = chain-start _ _; third = chain-start _ _; fourth = chain-start _ _ }
