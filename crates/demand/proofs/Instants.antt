-- Only instants decide the answer: where t is no instant of any task, no demand grows at t and no blocking does, so the total at t is
-- at most the one before. Assumes nothing.
use Prim.Native.Nat.{ℕ, ◌+◌, ◌-◌, ◌≤◌, ◌<◌}
use mathlib.Core.Path.{◌≡◌, refl, sym}
use mathlib.Core.Bool.{true, and-eq-true_iff}
use mathlib.Core.Logic.{◌⊎◌, inl, inr, by_cases}
use Rattle.std.specs.Prelude.{None, Option, Some}
use mathlib.Core.List.{List, [], ◌∷◌, Memᴰ}
use native.Mathlib.Decide.{ℕ_discrete, dec_le}
use native.Mathlib.Omega.{arith}
use Rattle.demand.specs.Demand.{jobs, demand, demands, blocking, total, least_deadline, deadlines_of}
use Rattle.demand.specs.Calls.{right_task, right_tasks}
use Rattle.demand.specs.Statements.{SmallestDeadline, IsInstant, FirstMissAtInstant, InstantsDecide}
use Rattle.demand.specs.declared.TaskRecord.{TaskRecord}
use Rattle.demand.proofs.Jobs.{instant, jobs-stay, before-next}
use Rattle.demand.proofs.Ranges.{task-ranges}
use Rattle.demand.proofs.Decided.{missed_first}
use Rattle.demand.proofs.Visits.{demand-stays, blocking-falls}

-- the smallest deadline

member_right : (τs : List TaskRecord) (τ : TaskRecord) → right_tasks τs ≡ true → Memᴰ τ τs → right_task τ ≡ true
unfolding right_tasks
member_right [] τ h m = elim m [ ]
member_right (σ ∷ σs) τ h (Memᴰ.head e) = rw e ((and-eq-true_iff (right_task σ) (right_tasks σs)).0 h).0
member_right (σ ∷ σs) τ h (Memᴰ.tail m) = member_right σs τ ((and-eq-true_iff (right_task σ) (right_tasks σs)).0 h).1 m

least-member : (σ : TaskRecord) (σs : List TaskRecord) → right_tasks (σ ∷ σs) ≡ true
    → (τ : TaskRecord) × Memᴰ τ (σ ∷ σs) × (least_deadline (σ ∷ σs) ≡ τ.deadline)
unfolding least_deadline right_tasks
least-member σ [] h = (σ, Memᴰ.head refl, omega (arith, (task-ranges σ ((and-eq-true_iff (right_task σ) true).0 h).0).deadline))
least-member σ (ρ ∷ ρs) h =
    let later = least-member ρ ρs ((and-eq-true_iff (right_task σ) (right_tasks (ρ ∷ ρs))).0 h).1 in
    by_cases (dec_le σ.deadline (least_deadline (ρ ∷ ρs))) (λ l. (σ, Memᴰ.head refl, omega arith))
    (λ l. (later.0, Memᴰ.tail later.1, omega (arith, later.2)))

least-most : (τs : List TaskRecord) (τ : TaskRecord) → Memᴰ τ τs → least_deadline τs ≤ τ.deadline
unfolding least_deadline
least-most [] τ m = elim m [ ]
least-most (σ ∷ σs) τ (Memᴰ.head e) = rw e (omega arith)
least-most (σ ∷ σs) τ (Memᴰ.tail m) = omega (arith, least-most σs τ m)

pub smallest-deadline : SmallestDeadline
smallest-deadline [] h l = absurd (omega arith)
smallest-deadline (σ ∷ σs) h l = (least-member σ σs h, least-most (σ ∷ σs))

-- instants

-- at t either some task has an instant or the demands are those before
stays-or-instant : (τs : List TaskRecord) (t : ℕ) → right_tasks τs ≡ true → 0 < t → IsInstant τs t ⊎ (demands τs t ≡ demands τs (t - 1))
unfolding right_tasks demands
stays-or-instant [] t h l = inr refl
stays-or-instant (τ ∷ τs) t h l =
    let both = (and-eq-true_iff (right_task τ) (right_tasks τs)).0 h in
    let positive = (task-ranges τ both.0).period.0 in
    by_cases (ℕ_discrete (instant τ (jobs τ (t - 1))) t) (λ e. inl (τ, jobs τ (t - 1), Memᴰ.head refl, sym e))
    (λ n.
    let same = demand-stays τ t (t - 1) (jobs-stay τ positive (t - 1) t (omega arith) (omega (arith, before-next τ positive (t - 1)))) in
    go same (stays-or-instant τs t both.1 l))
  where
    go : demand τ t ≡ demand τ (t - 1) → IsInstant τs t ⊎ (demands τs t ≡ demands τs (t - 1))
        → IsInstant (τ ∷ τs) t ⊎ (demand τ t + demands τs t ≡ demand τ (t - 1) + demands τs (t - 1))
    go same (inl s) = inl (s.0, s.1, Memᴰ.tail s.2, s.3)
    go same (inr e) = inr (omega (arith, same, e))

pub first-miss-at-instant : FirstMissAtInstant
unfolding total demands blocking
first-miss-at-instant [] horizon t h e = absurd (omega (arith, (missed_first [] horizon t e).2, no-total t))
  where
    no-total : (t : ℕ) → total [] t ≡ 0
    no-total t = refl
first-miss-at-instant (σ ∷ σs) horizon t h e =
    let miss = missed_first (σ ∷ σs) horizon t e in
    let least = least-member σ σs h in
    by_cases (ℕ_discrete t (least_deadline (σ ∷ σs))) (λ s. (least.0, 0, least.1, omega (arith, least.2)))
    (λ s. go (stays-or-instant (σ ∷ σs) t h (omega arith)) (miss.3 (t - 1) (omega (arith, miss.0)) (omega (arith, miss.0))) miss.2)
  where
    go : IsInstant (σ ∷ σs) t ⊎ (demands (σ ∷ σs) t ≡ demands (σ ∷ σs) (t - 1)) → total (σ ∷ σs) (t - 1) ≤ t - 1 → t < total (σ ∷ σs) t → IsInstant (σ ∷ σs) t
    go (inl i) m f = i
    go (inr s) m f = absurd (omega (arith, s, blocking-falls (σ ∷ σs) (t - 1) t (omega arith)))

pub instants-decide : InstantsDecide
instants-decide τs horizon h all = go (deadlines_of τs horizon) refl
  where
    go : (d : Option ℕ) → deadlines_of τs horizon ≡ d → d ≡ None
    go None e = refl
    go (Some t) e =
        let miss = missed_first τs horizon t e in
        absurd (omega (arith, all t (first-miss-at-instant τs horizon t h e) miss.1, miss.2))
