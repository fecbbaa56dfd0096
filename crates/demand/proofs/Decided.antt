-- What the answer says of the totals, and what totals say of the answer. Assumes nothing.
use Rattle.std.specs.Prelude.{Some}
use Prim.Native.Nat.{ℕ, suc, ◌-◌, ◌≤◌, ◌<◌}
use mathlib.Core.Path.{◌≡◌}
use mathlib.Core.Bool.{true, false}
use mathlib.Core.List.{List}
use native.Mathlib.Omega.{arith}
use borrow.Author.Tests.{leb-true, leb-false, le-leb, lt-leb}
use Rattle.model.proofs.Lowest.{lowest-nowhere, nowhere-lowest, lowest-at, lowest-found, lowest-within}
use Rattle.demand.specs.Demand.{total, meets_at, least_deadline, deadlines_of}
use Rattle.demand.specs.Statements.{MetExactly, MissedFirst}
use Rattle.demand.specs.declared.TaskRecord.{TaskRecord}

meets : (τs : List TaskRecord) (t : ℕ) → total τs t ≤ t → meets_at τs t ≡ true
unfolding meets_at
meets τs t l = le-leb _ _ l

meets-is : (τs : List TaskRecord) (t : ℕ) → meets_at τs t ≡ true → total τs t ≤ t
unfolding meets_at
meets-is τs t h = leb-true _ _ h

fails-is : (τs : List TaskRecord) (t : ℕ) → meets_at τs t ≡ false → t < total τs t
unfolding meets_at
fails-is τs t h = leb-false _ _ h

pub met-exactly : MetExactly
unfolding deadlines_of
met-exactly τs horizon = (
  λ e t f u. meets-is τs t (lowest-nowhere (meets_at τs) (least_deadline τs) (suc horizon - least_deadline τs) e t f (omega arith)),
  λ h. nowhere-lowest (meets_at τs) (least_deadline τs) (suc horizon - least_deadline τs) (λ k f u. meets τs k (h k f (omega arith))),
)

pub missed_first : MissedFirst
unfolding deadlines_of
missed_first τs horizon t e =
    let first = lowest-found (meets_at τs) (least_deadline τs) (suc horizon - least_deadline τs) t e in
    let within = lowest-within (meets_at τs) (least_deadline τs) (suc horizon - least_deadline τs) t e in
    (first.0, omega arith, fails-is τs t first.1, λ s f u. meets-is τs s (first.2 s f u))

-- the way back
pub missed-is : (τs : List TaskRecord) (horizon t : ℕ) → least_deadline τs ≤ t → t ≤ horizon → t < total τs t
    → ((s : ℕ) → least_deadline τs ≤ s → s < t → total τs s ≤ s) → deadlines_of τs horizon ≡ Some t
unfolding deadlines_of meets_at
missed-is τs horizon t f u fails before =
    lowest-at (meets_at τs) (least_deadline τs) (suc horizon - least_deadline τs) t f (omega arith) (λ s l m. meets τs s (before s l m)) (lt-leb _ _ fails)
