-- `reuse::sum_row` meets its contract. The loop's invariant: the columns passed have the sums of those before them, the others are as they were.
use Prim.Native.Nat.{◌+◌, ◌*◌}
use mathlib.Core.Path.{◌≡◌, refl, ◌∙◌}
use mathlib.Core.Logic.{by_cases}
use native.Mathlib.Decide.{ℕ_discrete}
use native.Mathlib.Numerals.{add-one}
use native.Mathlib.Omega.{arith}
use lib.ListN.{get_or, length-set}
use lib.Seq.{get_or-set_same, get_or-set_other}
use Rattle.reuse.specs.Counts.{row_sum}
use Rattle.reuse.proofs.Rows.{row_within}
use Rattle.reuse.proofs.sum_row.Goals as goal
use Rattle.reuse.proofs.sum_row.Goals.{After-here-1}

pub loop-a-init : goal.loop-a-init
unfolding row_sum
loop-a-init c = (c.requires.0, refl, λ d h. absurd (omega arith), λ e h. refl)

-- the column that is reached is as it was
here : (c : goal.After-here-1) → get_or c.loop-a.counts (64 * c.args.i + c.loop-a.a) 0
    ≡ get_or c.args.counts.now (64 * c.args.i + c.loop-a.a) 0
here c = c.loop-a.invariant.3 _ (λ d h e. omega arith)

pub overflow_add-sum : goal.overflow_add-sum
overflow_add-sum c =
    let l = c.loop-a in
    record { fits = omega (arith, here (goal.at.overflow_add-sum c).After-here-1, row_within c.args.counts.now c.args.i l.a (omega arith)) }

pub loop-a-preserved : goal.loop-a-preserved
unfolding row_sum
loop-a-preserved c =
    let l = c.loop-a in
    let i = c.args.i in (
      length-set l.counts _ _ ∙ l.invariant.0,
      rw (add-one, here (goal.at.loop-a-preserved c).After-here-1, l.invariant.1) refl,
      λ d h.
          by_cases (ℕ_discrete d l.a) (λ e. rw e (get_or-set_same l.counts (64 * i + l.a) l.sum 0 (omega (arith, l.invariant.0)) ∙ l.invariant.1))
          (λ n. get_or-set_other l.counts (64 * i + l.a) (64 * i + d) l.sum 0 (λ q. n (omega arith)) ∙ l.invariant.2 d (omega arith)),
      λ e h. get_or-set_other l.counts (64 * i + l.a) e l.sum 0 (h l.a (omega arith)) ∙ l.invariant.3 e (λ d k. h d (omega arith)),
    )

pub returns : goal.returns
returns c =
    let l = c.loop-a in
    record { counts_len = l.invariant.0; summed_row = λ a h. l.invariant.2 a (omega arith); others_stay = λ r a n h. l.invariant.3 (64 * r + a) (λ d k e. n (omega arith)) }
