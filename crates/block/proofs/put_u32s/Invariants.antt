-- `block::put_u32s` meets its contract. The loop's invariant: the first `i` numbers are stored, and else the bytes are as they were.
use Prim.Native.Nat.{◌+◌, ◌*◌, ◌≤◌}
use mathlib.Core.Path.{◌≡◌}
use mathlib.Core.List.{◌++◌}
use lib.ListN.{length, take}
use Rattle.block.specs.Bytes.{les}
use Rattle.block.proofs.Storing.{Stored}
use Rattle.block.proofs.put_u32s.Given as goal

abbrev pub invariant-loop-i : goal.invariant-loop-i
invariant-loop-i l =
    (l.i ≤ length l.values) × (length l.bytes ≡ length l.initial.bytes) × Stored (l.at + 4 * l.i) l.initial.bytes l.bytes (take l.at l.initial.bytes ++ les 4 (take l.i l.values))
