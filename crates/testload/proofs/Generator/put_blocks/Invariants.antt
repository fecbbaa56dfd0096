-- `testload::Generator::put_blocks` meets its contract. The loop's invariant: the first `i` blocks are appended, and the state is the one after them.
use Rattle.std.proofs.Common.{◌≡◌, length}
use Rattle.writer.specs.Writing.{Appended}
use Rattle.testload.specs.Draws.{after, drawn_list}
use Rattle.testload.proofs.Generator.put_blocks.Given as goal

abbrev pub invariant-loop-i : goal.invariant-loop-i
invariant-loop-i g l =
    let b = g.B.Drawn in
    (length l.out ≡ length l.initial.out) × Appended l.k (drawn_list b.bytes b.after_one 0 l.i l.initial.self.state) l.initial.out l.out ×
    (l.self.state ≡ after b.after_one l.i l.initial.self.state)
