-- The edge that gets its choice leads upward as the choice does, and the others as before.
use Rattle.std.proofs.Common.{◌≡◌, ℕ, ◌+◌, ◌<◌, ◌≤◌, List, length, get_or, set, ◌∙◌, ⊎_elim, eq-or-lt_of_le, arith, length-set, get_or-set_other, get_or-set_same}
use Rattle.placement_figure.proofs.main.Goals as goal
use Rattle.placement_figure.proofs.main.Invariants.{Upward}

one_more : {nexts : List ℕ} {a : ℕ} (k v : ℕ) → a ≤ k + 1 → k < 6 → Upward nexts a → k < v → v ≤ 6 → Upward (set nexts k v) k
one_more {nexts} k v below h u lo hi =
    let within : k < length nexts = omega (arith, u.long) in
    let both : (j : ℕ) → k ≤ j → j < 6 → (j < get_or (set nexts k v) j 0) × (get_or (set nexts k v) j 0 ≤ 6) =
    λ j l m.
    ⊎_elim
    (λ (e : k ≡ j). rw (← e, get_or-set_same nexts k v 0 within) (lo, hi))
    (λ (lt : k < j). rw (get_or-set_other nexts k j v 0 (omega arith)) (u.above j (omega arith) m, u.within j (omega arith) m))
    (eq-or-lt_of_le l)
    in
    record {
      edge = omega arith;
      long = length-set nexts k v ∙ u.long;
      above = λ j l m. (both j l m).0;
      within = λ j l m. (both j l m).1;
    }

pub loop-a-preserved : goal.loop-a-preserved
loop-a-preserved c =
    let upward = c.loop-a.invariant in
    one_more _ _ (omega arith) (omega (arith, upward.edge)) upward (omega arith) (omega arith)
