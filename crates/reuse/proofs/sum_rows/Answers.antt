-- `reuse::sum_rows` meets its contract. The loop's invariant: the rows passed have their sums, the others are as they were.
use Prim.Native.Nat.{ℕ, ◌≤◌}
use mathlib.Core.Path.{◌≡◌, refl, ◌∙◌}
use mathlib.Core.Logic.{by_cases}
use native.Mathlib.Decide.{ℕ_discrete}
use native.Mathlib.Nat.{le_refl}
use native.Mathlib.Omega.{arith}
use Rattle.reuse.specs.Counts.{row_sum}
use Rattle.reuse.proofs.Rows.{row_same}
use Rattle.reuse.proofs.sum_rows.Goals as goal
use Rattle.reuse.proofs.sum_rows.Goals.{In-loop-i}

pub loop-i-init : goal.loop-i-init
loop-i-init c = (c.requires.0, λ a r h l. absurd (omega arith), λ a r h l. refl)

-- the sums of the row that is reached are as they were
same : (c : goal.In-loop-i) (n : ℕ) → n ≤ 64 → row_sum c.loop-i.counts c.loop-i.i n ≡ row_sum c.args.counts.now c.loop-i.i n
same c n h = row_same _ _ _ n (λ a l. c.loop-i.invariant.2 a c.loop-i.i (omega arith) (le_refl _))

pub sum_row-requires : goal.sum_row-requires
sum_row-requires c =
    let l = c.loop-i in
    (l.invariant.0, omega arith, rw (same (goal.at.sum_row-requires c).In-loop-i 64 (le_refl 64)) (c.requires.2 l.i (omega arith)))

pub loop-i-preserved : goal.loop-i-preserved
loop-i-preserved c =
    let l = c.loop-i in
    let row = c.sum_row in (
      c.sum_row.ensures.counts_len,
      λ a r h k.
          by_cases (ℕ_discrete r l.i) (λ e. rw e (c.sum_row.ensures.summed_row a (omega arith) ∙ same (goal.at.loop-i-preserved c).In-loop-i a (omega arith)))
          (λ n. c.sum_row.ensures.others_stay r a n (omega arith) ∙ l.invariant.1 a r h (omega arith)),
      λ a r h k. c.sum_row.ensures.others_stay r a (λ e. omega arith) h ∙ l.invariant.2 a r h (omega arith),
    )

pub returns : goal.returns
returns c =
    let l = c.loop-i in
    record { counts_len = l.invariant.0; summed_rows = λ a r h k. l.invariant.1 a r h (omega arith) }
