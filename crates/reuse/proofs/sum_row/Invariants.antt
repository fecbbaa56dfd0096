-- `reuse::sum_row` meets its contract. The loop's invariant: the columns passed have the sums of those before them, the others are as they were.
use Prim.Native.Nat.{ℕ, ◌+◌, ◌*◌, ◌<◌}
use mathlib.Core.Path.{◌≡◌}
use lib.ListN.{length, get_or}
use Rattle.reuse.specs.Counts.{row_sum}
use Rattle.reuse.proofs.sum_row.Given as goal

abbrev pub invariant-loop-a : goal.invariant-loop-a
invariant-loop-a l =
    (length l.counts ≡ 4096) × (l.sum ≡ row_sum l.initial.counts l.i l.a) × ((d : ℕ) → d < l.a → get_or l.counts (64 * l.i + d) 0 ≡ row_sum l.initial.counts l.i d) ×
    ((e : ℕ) → ((d : ℕ) → d < l.a → e ≡ 64 * l.i + d → ⊥) → get_or l.counts e 0 ≡ get_or l.initial.counts e 0)
