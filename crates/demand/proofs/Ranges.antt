-- What a right set says of its numbers: how many tasks there are, and the range of each field. Assumes nothing.
use Prim.Native.Nat.{ℕ, zero, suc, ◌≤◌, ◌<◌}
use mathlib.Core.Path.{◌≡◌, refl}
use mathlib.Core.Bool.{true, false, ◌&&◌, and-eq-true_iff, and-false}
use mathlib.Core.Logic.{◌⊎◌, inl, inr}
use mathlib.Core.List.{List, [], ◌∷◌}
use native.Mathlib.Omega.{arith}
use Rattle.std.specs.List.{list_all}
use lib.Dec.{leb}
use lib.ListN.{length}
use borrow.Author.Tests.{leb-true, le-leb, lt-leb}
use Rattle.demand.specs.Demand.{most_ticks}
use Rattle.demand.specs.Calls.{most_tasks, in_range, right_task, right_tasks, right_set}
use Rattle.demand.specs.Lanes.{lane}
use Rattle.demand.specs.declared.TaskRecord.{TaskRecord}

pub record Ranges (τ : TaskRecord) : Type 0 where
  pub execution : τ.execution ≤ most_ticks
  pub period : (0 < τ.period) × (τ.period ≤ most_ticks)
  pub deadline : (0 < τ.deadline) × (τ.deadline ≤ most_ticks)
  pub region : τ.region ≤ most_ticks

pub record Counted (n : ℕ) (τs : List TaskRecord) : Type 0 where
  pub some : 0 < n
  pub most : n ≤ most_tasks
  pub right : right_tasks τs ≡ true

pub set-counted : (n : ℕ) (τs : List TaskRecord) → right_set n τs ≡ true → Counted n τs
unfolding right_set
set-counted n τs h =
    let three = (and-eq-true_iff (leb 1 n && leb n most_tasks) (right_tasks τs)).0 h in
    let two = (and-eq-true_iff (leb 1 n) (leb n most_tasks)).0 three.0 in
    record { some = leb-true _ _ two.0; most = leb-true _ _ two.1; right = three.1 }

in-range : (n : ℕ) → in_range n ≡ true → (0 < n) × (n ≤ most_ticks)
unfolding in_range
in-range n h = let both = (and-eq-true_iff (leb 1 n) (leb n most_ticks)).0 h in (leb-true _ _ both.0, leb-true _ _ both.1)

pub task-ranges : (τ : TaskRecord) → right_task τ ≡ true → Ranges τ
unfolding right_task
task-ranges τ h =
    let three = (and-eq-true_iff (in_range τ.execution && in_range τ.period && in_range τ.deadline) (in_range τ.region)).0 h in
    let two = (and-eq-true_iff (in_range τ.execution && in_range τ.period) (in_range τ.deadline)).0 three.0 in
    let one = (and-eq-true_iff (in_range τ.execution) (in_range τ.period)).0 two.0 in
    let e = in-range _ one.0 in
    let p = in-range _ one.1 in
    let d = in-range _ two.1 in
    let q = in-range _ three.1 in
    record { execution = e.1; period = p; deadline = d; region = q.1 }

pub lane-ranges : (τs : List TaskRecord) → right_tasks τs ≡ true → (k : ℕ) → k < length τs → Ranges (lane τs k)
unfolding right_tasks
lane-ranges [] h k l = absurd (omega arith)
lane-ranges (τ ∷ τs) h zero l = task-ranges τ ((and-eq-true_iff (right_task τ) (right_tasks τs)).0 h).0
lane-ranges (τ ∷ τs) h (suc k) l = lane-ranges τs ((and-eq-true_iff (right_task τ) (right_tasks τs)).0 h).1 k (omega arith)

pub all_right : (τs : List TaskRecord) → list_all right_task τs ≡ right_tasks τs
unfolding right_tasks
all_right [] = refl
all_right (τ ∷ τs) = rw (all_right τs)

pub set-rights : (n : ℕ) (τs : List TaskRecord) → 1 ≤ n → n ≤ most_tasks → right_set n τs ≡ right_tasks τs
unfolding right_set
set-rights n τs l u = rw (le-leb _ _ l, le-leb _ _ u)

pub set-wrong : (n : ℕ) (τs : List TaskRecord) → (n < 1) ⊎ (most_tasks < n) → right_set n τs ≡ false
unfolding right_set
set-wrong n τs (inl l) = rw (lt-leb _ _ l)
set-wrong n τs (inr l) = rw (lt-leb n most_tasks l, and-false (leb 1 n))
