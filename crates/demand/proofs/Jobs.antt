-- How many instants of a task are at t or before: the count is n exactly where the last of them is at t or before and the next is after t. So it
-- stays up to the next instant, and is one more there. Assumes nothing.
use Prim.Native.Nat.{ℕ, zero, suc, ◌+◌, ◌-◌, ◌*◌, ◌/◌, ◌≤◌, ◌<◌}
use mathlib.Core.Path.{◌≡◌, refl, sym, ap, ◌∙◌}
use mathlib.Core.Logic.{by_cases}
use native.Mathlib.Decide.{dec_lt}
use native.Mathlib.Nat.{add-mul, one-mul, div-mul-le_self, lt-div-mul-add, div-eq_of_lt-le}
use native.Mathlib.Numerals.{add-one}
use native.Mathlib.Omega.{arith}
use borrow.Author.Tests.{lt-ltb, le-ltb}
use Rattle.demand.specs.Demand.{jobs}
use Rattle.demand.specs.declared.TaskRecord.{TaskRecord}

-- the instant after j others
abbrev pub instant : TaskRecord → ℕ → ℕ
instant τ j = τ.deadline + j * τ.period

pub next-instant : (τ : TaskRecord) (j : ℕ) → instant τ (suc j) ≡ instant τ j + τ.period
next-instant τ j = omega (arith, ap (λ (n : ℕ). n * τ.period) (sym (add-one j)) ∙ add-mul j 1 τ.period, one-mul τ.period)

pub jobs-none : (τ : TaskRecord) (t : ℕ) → t < τ.deadline → jobs τ t ≡ 0
unfolding jobs
jobs-none τ t l = rw (lt-ltb t τ.deadline l)

pub jobs-some : (τ : TaskRecord) (t : ℕ) → τ.deadline ≤ t → jobs τ t ≡ suc ((t - τ.deadline) / τ.period)
unfolding jobs
jobs-some τ t l = rw (le-ltb t τ.deadline l) (add-one _)

module _ (τ : TaskRecord) (positive : 0 < τ.period) where
  pub jobs-are : (t j : ℕ) → instant τ j ≤ t → t < instant τ (suc j) → jobs τ t ≡ suc j
  jobs-are t j l u =
      let q = div-eq_of_lt-le {k = j} τ.period {m = t - τ.deadline} (omega arith) (omega (arith, next-instant τ j, add-mul j 1 τ.period, one-mul τ.period)) in
      jobs-some τ t (omega arith) ∙ ap suc q

  -- the next instant is after t
  pub before-next : (t : ℕ) → t < instant τ (jobs τ t)
  before-next t =
      by_cases (dec_lt t τ.deadline) (λ l. rw (jobs-none τ t l) (omega arith))
      (λ l. rw (jobs-some τ t (omega arith)) (omega (arith, lt-div-mul-add {a = t - τ.deadline} positive, next-instant τ ((t - τ.deadline) / τ.period))))

  -- the last one is not
  pub last-passed : (t j : ℕ) → jobs τ t ≡ suc j → instant τ j ≤ t
  last-passed t j e =
      by_cases (dec_lt t τ.deadline) (λ l. absurd (omega (arith, jobs-none τ t l)))
      (λ l.
      let q : j ≡ (t - τ.deadline) / τ.period = omega (arith, jobs-some τ t (omega arith)) in
      rw q (omega (arith, div-mul-le_self (t - τ.deadline) τ.period)))

  -- up to the next instant the count stays
  pub jobs-stay : (s t : ℕ) → s ≤ t → t < instant τ (jobs τ s) → jobs τ t ≡ jobs τ s
  jobs-stay s t l u = go (jobs τ s) refl u
    where
      go : (n : ℕ) → jobs τ s ≡ n → t < instant τ n → jobs τ t ≡ n
      go zero e u = jobs-none τ t (omega arith)
      go (suc j) e u = jobs-are t j (omega (arith, last-passed s j e)) u

  -- there it is one more
  pub jobs-more : (s t : ℕ) → t ≡ instant τ (jobs τ s) → jobs τ t ≡ suc (jobs τ s)
  jobs-more s t e = jobs-are t (jobs τ s) (omega arith) (omega (arith, next-instant τ (jobs τ s)))
