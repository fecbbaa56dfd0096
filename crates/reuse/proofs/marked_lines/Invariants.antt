-- `reuse::marked_lines` meets its contract. The loop's invariant: the set is the marked lines below c.
use Prim.Native.Nat.{ℕ}
use mathlib.Core.Path.{◌≡◌}
use mathlib.Core.Bool.{false, ◌&&◌}
use lib.Dec.{ltb}
use lib.ListN.{get_or}
use Rattle.lineset.specs.Members.{members}
use Rattle.reuse.proofs.marked_lines.Given as goal

abbrev pub invariant-loop-c : goal.invariant-loop-c
invariant-loop-c l = (d : ℕ) → members l.set d ≡ (ltb d l.c && get_or l.marks d false)
