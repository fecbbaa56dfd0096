-- `LineSet::with` meets its contract. The loop's invariant: the words below w are joined with the line's bit, and the others are those of self.
use lib.Bits.{bit_or}
use Rattle.lineset.proofs.Laws.{Joined, mask}
use Rattle.lineset.proofs.LineSet.with.Given as goal

abbrev pub invariant-loop-w : goal.invariant-loop-w
invariant-loop-w l = Joined bit_or l.initial.own-items (mask l.line) l.w l.own-items
