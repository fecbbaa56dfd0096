-- A list of records as a set by value, record by record. Assumes nothing.
use Rattle.std.specs.Prelude.{ℕ, zero, suc, ◌+◌, min, List, length, get_or, set, replicate}
use Rattle.demand.specs.Calls.{most_tasks}
use Rattle.demand.specs.declared.TaskRecord.{TaskRecord}
use Rattle.demand.specs.declared.TaskSet.{TaskSet}

-- e, p, d and q
abbrev pub task : ℕ → ℕ → ℕ → ℕ → TaskRecord
task e p d q = record { execution = e; period = p; deadline = d; region = q }

abbrev pub no_task : TaskRecord
no_task = task 0 0 0 0

abbrev pub no_tasks : TaskSet
no_tasks = record { count = 0; tasks = replicate most_tasks no_task }

-- one record more; past the most records none is kept, and they are counted up to one more than the most
unfoldable pub with_task : TaskSet → TaskRecord → TaskSet
with_task s τ = record { count = min (s.count + 1) (most_tasks + 1); tasks = set s.tasks s.count τ }

-- the set after i records of a list
unfoldable pub loaded : List TaskRecord → ℕ → TaskSet
loaded τs zero = no_tasks
loaded τs (suc i) = with_task (loaded τs i) (get_or τs i no_task)

-- the set after all of them
abbrev pub loaded_set : List TaskRecord → TaskSet
loaded_set τs = loaded τs (length τs)
