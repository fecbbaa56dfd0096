-- A number is in a range that ends at 2 ^ 32 or before if it is so far behind the first, modulo 2 ^ 32; and an accepted file's scratch range ends
-- there. Assumes nothing.
use Prim.Native.Nat.{ℕ, ◌+◌, ◌-◌, ◌%◌, ◌^◌, ◌<◌, ◌≤◌}
use mathlib.Core.Path.{◌≡◌, refl}
use mathlib.Core.Bool.{Bool, true, false, ◌&&◌, and-eq-true_iff}
use mathlib.Core.List.{List}
use native.Mathlib.Omega.{arith}
use lib.Dec.{leb, ltb}
use lib.ListN.{length}
use borrow.Author.Tests.{leb-true, leb-false, ltb-true, ltb-false, lt-ltb, le-ltb}
use Rattle.model.specs.Task.{block_count, line_count}
use Rattle.taskfile.specs.File.{IsAccepted, task_of, counts_in_range, header_in_range, scratch_in_range}
use Rattle.taskfile.proofs.Files.{accepted-within}

pub behind-first : (first count m : ℕ) → first + count ≤ 2 ^ 32 → m < 2 ^ 32
    → ltb ((m + (4294967296 - first)) % 4294967296) count ≡ (leb first m && ltb m (first + count))
behind-first first count m ends small = go (leb first m) (ltb m (first + count)) refl refl
  where
    go : (from below : Bool) → leb first m ≡ from → ltb m (first + count) ≡ below
        → ltb ((m + (4294967296 - first)) % 4294967296) count ≡ (from && below)
    go true true f b = lt-ltb ((m + (4294967296 - first)) % 4294967296) count (omega (arith, leb-true first m f, ltb-true m (first + count) b))
    go true false f b = le-ltb ((m + (4294967296 - first)) % 4294967296) count (omega (arith, leb-true first m f, ltb-false m (first + count) b))
    go false below f b = le-ltb ((m + (4294967296 - first)) % 4294967296) count (omega (arith, leb-false first m f))

pub scratch-ends : (file : List ℕ) → IsAccepted file → (task_of file).header.scratch.first + (task_of file).header.scratch.count ≤ 2 ^ 32
unfolding header_in_range scratch_in_range
scratch-ends file is =
    let t = task_of file in
    leb-true _ _ ((and-eq-true_iff (counts_in_range (block_count t) (length t.preempters) (line_count t)) _).0 (accepted-within file is).in-range).1
