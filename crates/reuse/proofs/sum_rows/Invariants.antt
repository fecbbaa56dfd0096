-- `reuse::sum_rows` meets its contract. The loop's invariant: the rows passed have their sums, the others are as they were.
use Prim.Native.Nat.{ℕ, ◌+◌, ◌*◌, ◌≤◌, ◌<◌}
use mathlib.Core.Path.{◌≡◌}
use lib.ListN.{length, get_or}
use Rattle.reuse.specs.Counts.{row_sum}
use Rattle.reuse.proofs.sum_rows.Given as goal

abbrev pub invariant-loop-i : goal.invariant-loop-i
invariant-loop-i l =
    (length l.counts ≡ 4096) × ((a r : ℕ) → a ≤ r → r < l.i → get_or l.counts (64 * r + a) 0 ≡ row_sum l.initial.counts r a) ×
    ((a r : ℕ) → a < 64 → l.i ≤ r → get_or l.counts (64 * r + a) 0 ≡ get_or l.initial.counts (64 * r + a) 0)
