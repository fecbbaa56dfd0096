-- A set by its fields, each in an array of 16 places, and what is made of the first of them. Assumes nothing.
use Rattle.std.specs.Prelude.{ℕ, zero, suc, ◌+◌, ◌<◌, ◌≤◌, max, ◌≡◌, cond, List, eqb, ltb, length, get_or}
use Rattle.demand.specs.Demand.{most_ticks}
use Rattle.demand.specs.Calls.{most_tasks}
use Rattle.demand.specs.Loading.{no_task}
use Rattle.demand.specs.declared.Blocked.{Blocked}
use Rattle.demand.specs.declared.Columns.{Columns}
use Rattle.demand.specs.declared.TaskRecord.{TaskRecord}

-- the task at place k
abbrev pub lane : List TaskRecord → ℕ → TaskRecord
lane τs k = get_or τs k no_task

-- an array of 16 places, the first n of which hold f
pub record Holds (f : ℕ → ℕ) (n : ℕ) (xs : List ℕ) : Type 0 where
  pub long : length xs ≡ most_tasks
  pub holds : (k : ℕ) → k < n → get_or xs k 0 ≡ f k

-- an array that holds a field of each task
abbrev pub Column : (TaskRecord → ℕ) → List TaskRecord → List ℕ → Type 0
Column field τs xs = Holds (λ k. field (lane τs k)) (length τs) xs

-- the fields of the tasks at the first n places
pub record Spread (τs : List TaskRecord) (n : ℕ) (c : Columns) : Type 0 where
  pub executions : Holds (λ k. (lane τs k).execution) n c.executions
  pub periods : Holds (λ k. (lane τs k).period) n c.periods
  pub deadlines : Holds (λ k. (lane τs k).deadline) n c.deadlines
  pub regions : Holds (λ k. (lane τs k).region) n c.regions

-- the first n of f, joined by op
unfoldable pub below : (ℕ → ℕ → ℕ) → ℕ → ℕ → (ℕ → ℕ) → ℕ
below op e zero f = e
below op e (suc n) f = op (below op e n f) (f n)

-- n at the instant t, and nothing at another
unfoldable pub at_instant : ℕ → ℕ → ℕ → ℕ
at_instant instant t n = cond (eqb instant t) n 0

-- the next instant of the task at place k once t is passed
abbrev pub moved : List ℕ → List ℕ → ℕ → ℕ → ℕ
moved instants periods t k = get_or instants k 0 + at_instant (get_or instants k 0) t (get_or periods k 0)

-- a number of ticks at each of n places
abbrev pub Ranged : ℕ → List ℕ → Type 0
Ranged n xs = (k : ℕ) → k < n → get_or xs k 0 ≤ most_ticks

-- a time after all others
abbrev pub latest : ℕ
latest = 0xffff_ffff

-- at t the task at place k blocks with its region, up to its deadline
abbrev pub blocked_by : List ℕ → List ℕ → ℕ → ℕ → ℕ
blocked_by deadlines regions t k = cond (ltb t (get_or deadlines k 0)) (get_or regions k 0) 0

abbrev pub ended_by : List ℕ → ℕ → ℕ → ℕ
ended_by deadlines t k = cond (ltb t (get_or deadlines k 0)) (get_or deadlines k 0) latest

-- what blocks at t, of n places, stays as long as it is said to
abbrev pub BlockedUntil : ℕ → List ℕ → List ℕ → ℕ → Blocked → Type 0
BlockedUntil n deadlines regions t b = (s : ℕ) → t ≤ s → s < b.until → b.region ≡ below max 0 n (blocked_by deadlines regions s)
