-- `assembling::read_numbers` meets its contract. The loop's invariant: the words so far are numbers, whose values the array holds, and the others are left.
use lib.ListN.{length}
use Rattle.assembling.specs.Words.{words_of}
use Rattle.assembling.proofs.Reading.{Seen}
use Rattle.assembling.proofs.read_numbers.Given as goal

abbrev pub invariant-loop-word : goal.invariant-loop-word
invariant-loop-word l = Seen (words_of l.line) (words_of l.rest) l.numbers l.count

abbrev pub decreases-loop-word : goal.decreases-loop-word
decreases-loop-word l = length l.rest
