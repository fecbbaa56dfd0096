-- `testload::Generator::put_numbers` meets its contract. The loop's invariant: the first `j` numbers stand in the block, and the state is the one
-- after them.
use Rattle.std.proofs.Common.{◌≡◌}
use Rattle.writer.specs.Writing.{stored_reads}
use Rattle.testload.specs.Draws.{next, after, drawn_list, drawn_number}
use Rattle.testload.proofs.Generator.put_numbers.Given as goal

abbrev pub invariant-loop-j : goal.invariant-loop-j
invariant-loop-j l =
    (stored_reads l.block l.j ≡ drawn_list drawn_number next 0 l.j l.initial.self.state) × (l.self.state ≡ after next l.j l.initial.self.state)
