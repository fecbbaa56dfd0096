-- `block::any_of_words` meets its contract. The loop's invariant: the or of the first `i` words is zero just where their bytes are zeros.
use Prim.Native.Nat.{◌+◌, ◌*◌, ◌≤◌}
use mathlib.Core.Path.{◌≡◌}
use lib.Dec.{eqb}
use Rattle.block.specs.Bytes.{zeros_between}
use Rattle.block.proofs.any_of_words.Given as goal

abbrev pub invariant-loop-i : goal.invariant-loop-i
invariant-loop-i l = (l.i ≤ l.count) × (eqb l.any 0 ≡ zeros_between l.bytes l.start (l.start + 8 * l.i))
