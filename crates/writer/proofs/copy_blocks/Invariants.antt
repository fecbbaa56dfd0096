-- `writer::copy_blocks` meets its contract. The loop's invariant: copies of the first `i` blocks are appended.
use mathlib.Core.Path.{◌≡◌}
use lib.ListN.{length}
use Rattle.writer.specs.Writing.{Appended, bodies}
use Rattle.writer.proofs.copy_blocks.Given as goal

abbrev pub invariant-loop-i : goal.invariant-loop-i
invariant-loop-i l =
    (length l.out ≡ length l.initial.out) × Appended l.k (bodies l.i l.source) l.initial.out l.out
