-- `LineSet::union` meets its contract. The loop's invariant: the words below w are joined, and the others are those of self.
use lib.ListN.{get_or}
use lib.Bits.{bit_or}
use Rattle.lineset.proofs.Laws.{Joined}
use Rattle.lineset.proofs.LineSet.union.Given as goal

abbrev pub invariant-loop-w : goal.invariant-loop-w
invariant-loop-w l = Joined bit_or l.initial.word-items (λ k. get_or l.other.words k 0) l.w l.word-items
