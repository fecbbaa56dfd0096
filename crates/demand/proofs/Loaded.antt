-- A set that is loaded from a list answers as the list does: up to 16 records are all kept, and more than 16 are refused, however many.
use Prim.Native.Nat.{ℕ, zero, suc, ◌+◌, ◌≤◌, ◌<◌, min}
use mathlib.Core.Path.{◌≡◌, refl, sym, ap, ◌∙◌}
use mathlib.Core.Bool.{Bool, false, ◌&&◌}
use mathlib.Core.Logic.{inr, by_cases}
use mathlib.Core.List.{List, [], ◌∷◌, ◌++◌}
use native.Mathlib.Decide.{dec_le}
use native.Mathlib.Numerals.{add-one}
use native.Mathlib.Omega.{arith}
use lib.Dec.{leb}
use lib.ListN.{length, get_or, take, length-set, length-replicate}
use lib.Seq.{take-suc, take-suc-set, take-length}
use Rattle.demand.specs.Demand.{most_ticks}
use Rattle.demand.specs.Calls.{most_tasks, right_set, answer_of, answer}
use Rattle.demand.specs.Loading.{no_task, no_tasks, with_task, loaded, loaded_set}
use Rattle.demand.specs.declared.TaskRecord.{TaskRecord}
use Rattle.demand.proofs.Ranges.{set-wrong}
use Rattle.demand.proofs.Answers.{refused-answer}

-- the records of a list, one after another

pub loaded-none : (τs : List TaskRecord) → no_tasks ≡ loaded τs 0
unfolding loaded
loaded-none τs = refl

pub loaded-more : (τs : List TaskRecord) (i : ℕ) → with_task (loaded τs i) (get_or τs i no_task) ≡ loaded τs (i + 1)
unfolding loaded
loaded-more τs i = rw (add-one i)

-- after i records

loaded-long : (τs : List TaskRecord) (i : ℕ) → length (loaded τs i).tasks ≡ most_tasks
unfolding loaded with_task
loaded-long τs zero = length-replicate most_tasks no_task
loaded-long τs (suc i) = length-set (loaded τs i).tasks (loaded τs i).count (get_or τs i no_task) ∙ loaded-long τs i

loaded-count : (τs : List TaskRecord) (i : ℕ) → (loaded τs i).count ≡ min i (most_tasks + 1)
unfolding loaded with_task
loaded-count τs zero = omega arith
loaded-count τs (suc i) = omega (arith, loaded-count τs i)

loaded-tasks : (τs : List TaskRecord) (i : ℕ) → i ≤ most_tasks → i ≤ length τs → take i (loaded τs i).tasks ≡ take i τs
unfolding loaded with_task
loaded-tasks τs zero l m = refl
loaded-tasks τs (suc i) l m =
    let here : (loaded τs i).count ≡ i = omega (arith, loaded-count τs i) in
    rw here
    (take-suc-set (loaded τs i).tasks i (get_or τs i no_task) (omega (arith, loaded-long τs i)) ∙
    ap (λ (xs : List TaskRecord). xs ++ (get_or τs i no_task ∷ [])) (loaded-tasks τs i (omega arith) (omega arith)) ∙ sym (take-suc τs i no_task (omega arith)))

-- all of them

-- more than 16 records are refused, whichever are looked at
all-refused : (m n : ℕ) (σs τs : List TaskRecord) (horizon : ℕ) → most_tasks < m → most_tasks < n → answer_of m σs horizon ≡ answer_of n τs horizon
all-refused m n σs τs horizon l h =
    sym (refused-answer m σs horizon (right_set m σs) refl (wrong m σs l)) ∙ refused-answer n τs horizon (right_set n τs) refl (wrong n τs h)
  where
    wrong : (k : ℕ) (ρs : List TaskRecord) → most_tasks < k → (right_set k ρs && leb horizon most_ticks) ≡ false
    wrong k ρs u = ap (λ (b : Bool). b && leb horizon most_ticks) (set-wrong k ρs (inr u))

pub loaded-answer : (τs : List TaskRecord) (horizon : ℕ)
    → answer_of (loaded_set τs).count (take (loaded_set τs).count (loaded_set τs).tasks) horizon ≡ answer τs horizon
loaded-answer τs horizon =
    by_cases (dec_le (length τs) most_tasks)
    (λ l.
    let all : (loaded_set τs).count ≡ length τs = omega (arith, loaded-count τs (length τs)) in
    rw (all, loaded-tasks τs (length τs) l (omega arith), take-length τs))
    (λ l. all-refused _ _ _ _ horizon (omega (arith, loaded-count τs (length τs))) (omega arith))
