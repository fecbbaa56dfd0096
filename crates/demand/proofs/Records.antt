-- The records of a set by value, as an array and a count.
use Prim.Native.Nat.{ℕ, ◌≤◌, ◌<◌}
use mathlib.Core.Path.{◌≡◌, sym}
use mathlib.Core.List.{List}
use native.Mathlib.Omega.{arith}
use lib.ListN.{length, get_or, take, length-take}
use lib.Seq.{get_or-take}
use Rattle.demand.specs.Loading.{no_task}
use Rattle.demand.specs.Lanes.{lane}
use Rattle.demand.specs.declared.TaskRecord.{TaskRecord}

pub lane-within : (xs : List TaskRecord) (n i : ℕ) → i < n → get_or xs i no_task ≡ lane (take n xs) i
lane-within xs n i l = sym (get_or-take n xs i no_task l)

pub take_long : (xs : List TaskRecord) (n : ℕ) → n ≤ length xs → length (take n xs) ≡ n
take_long xs n l = simp length-take (omega arith)
