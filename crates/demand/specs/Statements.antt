-- What is shown of the definitions and no contract says (document 02, item 13). Each is proved in proofs/ under its name in small letters.
-- Assumes nothing.
use Rattle.std.specs.Prelude.{ℕ, ◌+◌, ◌*◌, ◌^◌, ◌≤◌, ◌<◌, ◌≡◌, true, length, None, Some}
use mathlib.Core.List.{List, Memᴰ}
use Rattle.demand.specs.Demand.{most_ticks, total, least_deadline, deadlines_of}
use Rattle.demand.specs.Calls.{most_tasks, right_tasks}
use Rattle.demand.specs.Cases.{Case, CaseHolds, cases}
use Rattle.demand.specs.declared.TaskRecord.{TaskRecord}

-- the total is at most t at every whole t from the smallest deadline up to the horizon
abbrev pub MeetsAll : List TaskRecord → ℕ → Type 0
MeetsAll τs horizon = (t : ℕ) → least_deadline τs ≤ t → t ≤ horizon → total τs t ≤ t

-- then and only then the answer is yes
abbrev pub MetExactly : Type 0
MetExactly = (τs : List TaskRecord) (horizon : ℕ) → (deadlines_of τs horizon ≡ None → MeetsAll τs horizon) × (MeetsAll τs horizon → deadlines_of τs horizon ≡ None)

-- a no carries the first t that fails
abbrev pub MissedFirst : Type 0
MissedFirst =
    (τs : List TaskRecord) (horizon t : ℕ) → deadlines_of τs horizon ≡ Some t
    → (least_deadline τs ≤ t) × (t ≤ horizon) × (t < total τs t) × ((s : ℕ) → least_deadline τs ≤ s → s < t → total τs s ≤ s)

-- the smallest deadline of a right set is a task's, and none is smaller
abbrev pub SmallestDeadline : Type 0
SmallestDeadline =
    (τs : List TaskRecord) → right_tasks τs ≡ true → 0 < length τs
    → ((τ : TaskRecord) × Memᴰ τ τs × (least_deadline τs ≡ τ.deadline)) × ((τ : TaskRecord) → Memᴰ τ τs → least_deadline τs ≤ τ.deadline)

-- t is an instant d + i · p of a task of the set
abbrev pub IsInstant : List TaskRecord → ℕ → Type 0
IsInstant τs t = (τ : TaskRecord) × (i : ℕ) × Memᴰ τ τs × (t ≡ τ.deadline + i * τ.period)

-- only instants need a visit: the first t that fails is one
abbrev pub FirstMissAtInstant : Type 0
FirstMissAtInstant =
    (τs : List TaskRecord) (horizon t : ℕ) → right_tasks τs ≡ true → deadlines_of τs horizon ≡ Some t → IsInstant τs t

-- so a set that passes at its instants passes at every t
abbrev pub InstantsDecide : Type 0
InstantsDecide =
    (τs : List TaskRecord) (horizon : ℕ) → right_tasks τs ≡ true → ((t : ℕ) → IsInstant τs t → t ≤ horizon → total τs t ≤ t)
    → deadlines_of τs horizon ≡ None

-- the totals of a right set fit 52 bits
abbrev pub TotalFits : Type 0
TotalFits = (τs : List TaskRecord) (t : ℕ) → right_tasks τs ≡ true → length τs ≤ most_tasks → t ≤ most_ticks → total τs t < 2 ^ 52

-- the worked cases
abbrev pub CasesHold : Type 0
CasesHold = (c : Case) → Memᴰ c cases → CaseHolds c
