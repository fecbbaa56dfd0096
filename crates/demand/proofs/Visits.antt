-- Going from instant to instant. Before a visit of t the arrays hold each task's first instant from t on, and the demand is that of t - 1; after it, those
-- of t. Up to the next instant of any task no demand changes and no blocking grows, so if the total is at most t it is at most every time in between.
-- Assumes nothing.
use Prim.Native.Nat.{ℕ, ◌+◌, ◌-◌, ◌*◌, ◌≤◌, ◌<◌, min, max}
use mathlib.Core.Path.{◌≡◌, refl, sym, ap, ◌∙◌}
use mathlib.Core.Bool.{Bool, true, false, cond, and-eq-true_iff}
use mathlib.Core.Logic.{by_cases}
use Rattle.std.specs.Prelude.{None, Some}
use mathlib.Core.List.{List, [], ◌∷◌}
use native.Mathlib.Decide.{ℕ_discrete, dec_lt}
use native.Mathlib.Nat.{mul-add, mul-one}
use native.Mathlib.Numerals.{add-one}
use native.Mathlib.Omega.{arith}
use lib.Dec.{ltb}
use lib.ListN.{length, get_or}
use borrow.Author.Tests.{lt-ltb, le-ltb}
use Rattle.demand.specs.Demand.{most_ticks, jobs, demand, demands, blocks, blocking, total, least_deadline, deadlines_of}
use Rattle.demand.specs.Calls.{most_tasks, right_task, right_tasks}
use Rattle.demand.specs.Lanes.{lane, Holds, Column, below, at_instant, moved, blocked_by}
use Rattle.demand.specs.declared.TaskRecord.{TaskRecord}
use Rattle.demand.proofs.Decided.{met-exactly, missed-is}
use Rattle.demand.proofs.Jobs.{instant, next-instant, jobs-none, before-next, jobs-stay, jobs-more}
use Rattle.demand.proofs.AtInstant.{at-itself, at-another, at_most}
use Rattle.demand.proofs.Joined.{joined-all, below-same, below-sum, below-at-most, least-below, least_above}
use Rattle.demand.proofs.Ranges.{Ranges, task-ranges, lane-ranges}
use Rattle.demand.proofs.Places.{demands-placed, least-placed, least-read, blocking-read}

-- one task

module _ (τ : TaskRecord) (positive : 0 < τ.period) (t : ℕ) (some : 0 < t) where
  abbrev waiting : ℕ
  waiting = instant τ (jobs τ (t - 1))

  stays : (waiting ≡ t → ⊥) → jobs τ t ≡ jobs τ (t - 1)
  stays h = jobs-stay τ positive (t - 1) t (omega arith) (omega (arith, before-next τ positive (t - 1)))

  instant-passed : waiting + at_instant waiting t τ.period ≡ instant τ (jobs τ t)
  instant-passed =
      by_cases (ℕ_discrete waiting t)
      (λ e. rw (e, at-itself t τ.period, jobs-more τ positive (t - 1) t (sym e)) (omega (arith, next-instant τ (jobs τ (t - 1)))))
      (λ h. rw (at-another waiting t τ.period h, stays h) (omega arith))

  demand-passed : demand τ t ≡ demand τ (t - 1) + at_instant waiting t τ.execution
  unfolding demand
  demand-passed =
      by_cases (ℕ_discrete waiting t)
      (λ e. rw (e, at-itself t τ.execution, jobs-more τ positive (t - 1) t (sym e), ← add-one (jobs τ (t - 1)), mul-add, mul-one))
      (λ h. rw (at-another waiting t τ.execution h, stays h) (omega arith))

no-demand : (τ : TaskRecord) (t : ℕ) → jobs τ t ≡ 0 → demand τ t ≤ 0
unfolding demand
no-demand τ t e = rw e (omega arith)

pub demand-stays : (τ : TaskRecord) (s t : ℕ) → jobs τ s ≡ jobs τ t → demand τ s ≡ demand τ t
unfolding demand
demand-stays τ s t e = rw e

blocks-falls : (τ : TaskRecord) (t s : ℕ) → t ≤ s → blocks τ s ≤ blocks τ t
unfolding blocks
blocks-falls τ t s l =
    by_cases (dec_lt s τ.deadline) (λ u. rw (lt-ltb _ _ u, lt-ltb t τ.deadline (omega arith)) (omega arith))
    (λ u. rw (le-ltb s τ.deadline (omega arith)) (omega arith))

pub blocking-falls : (τs : List TaskRecord) (t s : ℕ) → t ≤ s → blocking τs s ≤ blocking τs t
unfolding blocking
blocking-falls [] t s l = omega arith
blocking-falls (τ ∷ τs) t s l = omega (arith, blocks-falls τ t s l, blocking-falls τs t s l)

blocks-most : (τ : TaskRecord) (t : ℕ) → blocks τ t ≤ τ.region
unfolding blocks
blocks-most τ t = go (ltb t τ.deadline)
  where
    go : (b : Bool) → cond b τ.region 0 ≤ τ.region
    go true = omega arith
    go false = omega arith

pub blocking-most : (τs : List TaskRecord) (t : ℕ) → right_tasks τs ≡ true → blocking τs t ≤ most_ticks
unfolding blocking right_tasks
blocking-most [] t h = omega arith
blocking-most (τ ∷ τs) t h =
    let both = (and-eq-true_iff (right_task τ) (right_tasks τs)).0 h in
    omega (arith, blocks-most τ t, (task-ranges τ both.0).region, blocking-most τs t both.1)

-- all places

-- each place holds its first instant after s
abbrev pub Waiting : List TaskRecord → ℕ → List ℕ → Type 0
Waiting τs s xs = Holds (λ k. instant (lane τs k) (jobs (lane τs k) s)) (length τs) xs

module _ (τs : List TaskRecord) (right : right_tasks τs ≡ true) where
  positive : (k : ℕ) → k < length τs → 0 < (lane τs k).period
  positive k l = (lane-ranges τs right k l).period.0

  alike : (s t : ℕ) → ((k : ℕ) → k < length τs → jobs (lane τs k) s ≡ jobs (lane τs k) t) → demands τs s ≡ demands τs t
  alike s t h =
      demands-placed τs s ∙ below-same ◌+◌ 0 (length τs) _ _ (λ k l. demand-stays (lane τs k) s t (h k l)) ∙ sym (demands-placed τs t)

  module _ (t : ℕ) (some : 0 < t) (xs : List ℕ) (w : Waiting τs (t - 1) xs) where
    -- the demands at t
    pub demands-passed : (es : List ℕ) → Column (λ τ. τ.execution) τs es
        → demands τs t ≡ demands τs (t - 1) + below ◌+◌ 0 (length τs) (λ k. at_instant (get_or xs k 0) t (get_or es k 0))
    demands-passed es c =
        demands-placed τs t ∙
        below-same ◌+◌ 0 (length τs) _ (λ k. demand (lane τs k) (t - 1) + at_instant (get_or xs k 0) t (get_or es k 0))
        (λ k l. rw (w.holds k l, c.holds k l) (demand-passed (lane τs k) (positive k l) t some)) ∙
        below-sum (length τs) (λ k. demand (lane τs k) (t - 1)) (λ k. at_instant (get_or xs k 0) t (get_or es k 0)) ∙
        ap (λ (n : ℕ). n + below ◌+◌ 0 (length τs) (λ k. at_instant (get_or xs k 0) t (get_or es k 0))) (sym (demands-placed τs (t - 1)))

    -- the arrays at t
    pub waiting-passed : (ps ys : List ℕ) → Column (λ τ. τ.period) τs ps → Holds (moved xs ps t) (length τs) ys → Waiting τs t ys
    waiting-passed ps ys c h =
        record {
          long = h.long;
          holds = λ k l. h.holds k l ∙ rw (w.holds k l, c.holds k l) (instant-passed (lane τs k) (positive k l) t some);
        }

  -- from t up to the next instant u
  module _ (t u : ℕ) (above : t < u) (xs : List ℕ) (w : Waiting τs t xs) (next : (k : ℕ) → k < length τs → u ≤ get_or xs k 0) where
    jobs-between : (s : ℕ) → t ≤ s → s < u → (k : ℕ) → k < length τs → jobs (lane τs k) s ≡ jobs (lane τs k) t
    jobs-between s l m k n = jobs-stay (lane τs k) (positive k n) t s l (omega (arith, next k n, w.holds k n))

    pub waiting-next : Waiting τs (u - 1) xs
    waiting-next =
        record {
          long = w.long;
          holds = λ k l. w.holds k l ∙ ap (instant (lane τs k)) (sym (jobs-between (u - 1) (omega arith) (omega arith) k l));
        }

    pub demands-next : demands τs (u - 1) ≡ demands τs t
    demands-next = alike (u - 1) t (jobs-between (u - 1) (omega arith) (omega arith))

    pub meets-between : total τs t ≤ t → (s : ℕ) → t ≤ s → s < u → total τs s ≤ s
    unfolding total
    meets-between h s l m = omega (arith, alike s t (jobs-between s l m), blocking-falls τs t s l)

  -- where the smallest deadline is u, nothing is passed before it
  module _ (u : ℕ) (some : 0 < u) (xs : List ℕ) (c : Column (λ τ. τ.deadline) τs xs) (least : (k : ℕ) → k < length τs → u ≤ (lane τs k).deadline) where
    none_before : (k : ℕ) → k < length τs → jobs (lane τs k) (u - 1) ≡ 0
    none_before k l = jobs-none (lane τs k) (u - 1) (omega (arith, least k l))

    pub waiting-first : Waiting τs (u - 1) xs
    waiting-first = record { long = c.long; holds = λ k l. c.holds k l ∙ rw (none_before k l) (omega arith) }

    pub demands-first : demands τs (u - 1) ≡ 0
    demands-first =
        omega (arith, demands-placed τs (u - 1), below-at-most (length τs) 0 (λ k. demand (lane τs k) (u - 1)) (λ k l. no-demand (lane τs k) (u - 1) (none_before k l)))

-- the loop

-- arrays that hold the fields of a right set of n tasks
pub record Arrays (τs : List TaskRecord) (n : ℕ) (es ps ds qs : List ℕ) : Type 0 where
  pub all : n ≡ length τs
  pub few : n ≤ most_tasks
  pub right : right_tasks τs ≡ true
  pub executions : Column (λ τ. τ.execution) τs es
  pub periods : Column (λ τ. τ.period) τs ps
  pub deadlines : Column (λ τ. τ.deadline) τs ds
  pub regions : Column (λ τ. τ.region) τs qs

-- before a visit of t
pub record Visiting (τs : List TaskRecord) (xs : List ℕ) (demanded t : ℕ) : Type 0 where
  pub waiting : Waiting τs (t - 1) xs
  pub demand-is : demanded ≡ demands τs (t - 1)
  pub demand-most : demanded ≤ most_ticks
  pub some : 0 < t
  pub from : least_deadline τs ≤ t
  pub met : (s : ℕ) → least_deadline τs ≤ s → s < t → total τs s ≤ s

module _ (τs : List TaskRecord) (n : ℕ) (es ps ds qs : List ℕ) (a : Arrays τs n es ps ds qs) where
  ranges : (k : ℕ) → k < length τs → Ranges (lane τs k)
  ranges = lane-ranges τs a.right

  -- what is joined over the places of the arrays is so over the tasks
  over-all : (op : ℕ → ℕ → ℕ) (e x : ℕ) (f : ℕ → ℕ) → x ≡ below op e n f → x ≡ below op e (length τs) f
  over-all op e x f is = joined-all op e n (length τs) f is a.all

  pub visiting-first : (t : ℕ) → t ≡ below min (most_ticks + 1) n (λ k. get_or ds k 0) → Visiting τs ds 0 t
  visiting-first t e =
      let is = over-all _ _ _ _ e ∙ least-read τs ds a.deadlines in
      let some : 0 < t = rw (is, least-placed τs) (least_above _ (length τs) 0 _ (omega arith) (λ k l. (ranges k l).deadline.0)) in
      let least : (k : ℕ) → k < length τs → t ≤ (lane τs k).deadline = λ k l. rw (is, least-placed τs) (least-below _ (length τs) _ k l) in
      record {
        waiting = waiting-first τs a.right t some ds a.deadlines least;
        demand-is = sym (demands-first τs a.right t some ds a.deadlines least);
        demand-most = omega arith;
        some = some;
        from = omega arith;
        met = λ s l u. absurd (omega arith);
      }

  pub demand-most-at : (xs : List ℕ) (demanded t here : ℕ) → here ≡ demanded + below ◌+◌ 0 n (λ k. at_instant (get_or xs k 0) t (get_or es k 0))
      → here ≤ demanded + most_tasks * most_ticks
  demand-most-at xs demanded t here is =
      let each : (k : ℕ) → k < n → at_instant (get_or xs k 0) t (get_or es k 0) ≤ most_ticks = λ k l.
      let within : k < length τs = omega (arith, a.all) in
      omega (arith, at_most (get_or xs k 0) t (get_or es k 0), a.executions.holds k within, (ranges k within).execution) in
      omega (arith, is, below-at-most n most_ticks _ each, a.few)

  pub blocking-read-most : (t b : ℕ) → b ≡ below max 0 n (blocked_by ds qs t) → b ≤ most_ticks
  blocking-read-most t b is = omega (arith, over-all _ _ _ _ is, blocking-read τs ds qs t a.deadlines a.regions, blocking-most τs t a.right)

  -- a visit of t: the demand there, what blocks, the instants after it and the next of them
  module _ (xs : List ℕ) (demanded t end here b next : ℕ) (ys : List ℕ) (v : Visiting τs xs demanded t)
      (here-is : here ≡ demanded + below ◌+◌ 0 n (λ k. at_instant (get_or xs k 0) t (get_or es k 0))) (blocking-is : b ≡ below max 0 n (blocked_by ds qs t))
      (next-is : next ≡ below min end n (moved xs ps t)) (gone : Holds (moved xs ps t) n ys) where
    demands-is : here ≡ demands τs t
    demands-is = omega (arith, v.demand-is, demands-passed τs a.right t v.some xs v.waiting es a.executions, here-is, over-all ◌+◌ 0 _ (λ k. at_instant (get_or xs k 0) t (get_or es k 0)) refl)

    pub total-is : here + b ≡ total τs t
    unfolding total
    total-is = omega (arith, demands-is, blocking-read τs ds qs t a.deadlines a.regions, over-all _ _ _ _ blocking-is)

    moved_all : Holds (moved xs ps t) (length τs) ys
    moved_all = rw a.all at gone

    after : Waiting τs t ys
    after = waiting-passed τs a.right t v.some xs v.waiting ps ys a.periods moved_all

    pub next-above : t < end → t < next
    next-above l =
        rw (over-all _ _ _ _ next-is)
        (least_above end (length τs) t _ l
        (λ k h. omega (arith, moved_all.holds k h, after.holds k h, before-next (lane τs k) (ranges k h).period.0 t)))

    pub visiting-next : t < end → end ≤ most_ticks + 1 → here + b ≤ t → Visiting τs ys here next
    visiting-next l m h =
        let above = next-above l in
        let until : (k : ℕ) → k < length τs → next ≤ get_or ys k 0 = λ k u. omega (arith, over-all _ _ _ _ next-is, least-below end (length τs) (moved xs ps t) k u, moved_all.holds k u) in
        record {
          waiting = waiting-next τs a.right t next above ys after until;
          demand-is = demands-is ∙ sym (demands-next τs a.right t next above ys after until);
          demand-most = omega arith;
          some = omega arith;
          from = omega (arith, v.from);
          met = λ s f u.
              by_cases (dec_lt s t) (λ early. v.met s f early)
              (λ late. meets-between τs a.right t next above ys after until (omega (arith, total-is)) s (omega arith) u);
        }

-- the answers

pub first-missed : (τs : List TaskRecord) (xs : List ℕ) (demanded t horizon : ℕ) → Visiting τs xs demanded t → t ≤ horizon → t < total τs t
    → deadlines_of τs horizon ≡ Some t
first-missed τs xs demanded t horizon v l h = missed-is τs horizon t v.from l h v.met

pub all-met : (τs : List TaskRecord) (xs : List ℕ) (demanded t horizon : ℕ) → Visiting τs xs demanded t → horizon < t → deadlines_of τs horizon ≡ None
all-met τs xs demanded t horizon v l = (met-exactly τs horizon).1 (λ s f u. v.met s f (omega arith))
