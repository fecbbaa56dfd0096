-- `deadlines::read_line` is safe and ends: fields can be asked for one after another.
use Rattle.deadlines.proofs.read_line.Given as goal

abbrev pub invariant-loop-number : goal.invariant-loop-number
invariant-loop-number l = (goal.iterator-loop-number).can_next l.fields × (goal.iterator-loop-number).is_finite l.fields
