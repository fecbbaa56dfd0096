-- The plan of a well-formed list can be stored: its points are right one by one, and zeros follow.
-- Assumes nothing.
use Rattle.model.specs.Answers.{accept}
use Prim.Native.Nat.{ℕ, zero, suc, ◌+◌, ◌-◌, ◌<◌, ◌≤◌}
use mathlib.Core.Path.{◌≡◌, refl, ap, ◌∙◌}
use mathlib.Core.Bool.{true}
use mathlib.Core.Logic.{by_cases}
use mathlib.Core.List.{List, ◌∷◌, ◌++◌}
use native.Mathlib.Decide.{dec_le}
use native.Mathlib.Omega.{arith}
use lib.ListN.{length, get_or, replicate, get_or-append, get_or-replicate}
use lib.Seq.{get_or-append-add}
use borrow.Author.Tests.{le-leb, lt-ltb, le-ltb, eq-eqb}
use Rattle.model.specs.Task.{Task, block_count}
use Rattle.model.specs.Lists.{well_formed}
use Rattle.model.specs.Planning.{plan_for}
use Rattle.model.proofs.Lists.{rising-short, point-right}
use Rattle.model.proofs.Lowest.{nowhere-lowest}
use Rattle.planvalue.specs.Values.{point_before, point_right, plan_in_range, plan_verdict}

module _ (t : Task) (ps : List ℕ) (least : 1 ≤ block_count t) (most : block_count t ≤ 64) (well : well_formed (block_count t) ps ≡ true) where
  abbrev points : List ℕ
  points = ps ++ replicate (64 - length ps) 0

  short : length ps < block_count t
  short = omega (arith, rising-short (block_count t) 0 ps (omega arith) well)

  before : (i : ℕ) → i < length ps → point_before points i ≡ get_or (0 ∷ ps) i 0
  unfolding point_before
  before zero h = refl
  before (suc i) h = get_or-append ps _ 0 i (omega arith)

  entries : (i : ℕ) → i < 64 → point_right (block_count t) (length ps) points i ≡ true
  unfolding point_right
  entries i h = by_cases (dec_le (suc i) (length ps)) (λ l. point l) (λ l. beyond (omega arith))
    where
      point : i < length ps → point_right (block_count t) (length ps) points i ≡ true
      point l =
          rw (lt-ltb i (length ps) l, before i l, get_or-append ps (replicate (64 - length ps) 0) 0 i l)
          (point-right (block_count t) 0 ps i well l)

      beyond : length ps ≤ i → point_right (block_count t) (length ps) points i ≡ true
      beyond l =
          let s : i ≡ length ps + (i - length ps) = omega arith in
          let zero : get_or points i 0 ≡ 0 =
          ap (λ (j : ℕ). get_or points j 0) s ∙ get_or-append-add ps _ (i - length ps) 0 ∙ get_or-replicate {A = ℕ} (64 - length ps) (i - length ps) 0 0 (omega (arith, short)) in
          rw (le-ltb i (length ps) l) (eq-eqb (get_or points i 0) 0 zero)

  pub list-stores : plan_verdict (plan_for t ps) ≡ accept
  unfolding plan_verdict plan_in_range plan_for
  list-stores =
      rw (
        le-leb 1 (block_count t) least,
        le-leb (block_count t) 64 most,
        le-leb (length ps) 63 (omega (arith, short)),
        nowhere-lowest (point_right (block_count t) (length ps) points) 0 64 (λ i l m. entries i (omega arith)),
      )
      refl
