-- The first n of a function of the place, joined by an operation: sums, the greatest and the least. A fold over a list of tasks is the same over its
-- places. Assumes nothing.
use Prim.Native.Nat.{ℕ, zero, suc, ◌+◌, ◌*◌, ◌≤◌, ◌<◌, min}
use mathlib.Core.Path.{◌≡◌, refl, sym, ap, ◌∙◌}
use mathlib.Core.List.{List, [], ◌∷◌}
use mathlib.Core.Logic.{by_cases}
use native.Mathlib.Decide.{ℕ_discrete}
use native.Mathlib.Nat.{add-mul, one-mul}
use native.Mathlib.Numerals.{add-one}
use native.Mathlib.Omega.{arith}
use lib.ListN.{length}
use Rattle.demand.specs.Lanes.{lane, below}
use Rattle.demand.specs.declared.TaskRecord.{TaskRecord}

-- as a loop goes on: nothing yet, one more, and all

pub joined-none : (op : ℕ → ℕ → ℕ) (e : ℕ) (f : ℕ → ℕ) → e ≡ below op e 0 f
unfolding below
joined-none op e f = refl

pub joined-more : (op : ℕ → ℕ → ℕ) (e n : ℕ) (f : ℕ → ℕ) {x y z : ℕ} → x ≡ below op e n f → y ≡ f n → z ≡ op x y → z ≡ below op e (n + 1) f
unfolding below
joined-more op e n f {y = y} a b c = rw (add-one n) (c ∙ ap (λ (x : ℕ). op x y) a ∙ ap (op (below op e n f)) b)

pub joined-all : (op : ℕ → ℕ → ℕ) (e i n : ℕ) (f : ℕ → ℕ) {x : ℕ} → x ≡ below op e i f → i ≡ n → x ≡ below op e n f
joined-all op e i n f a s = a ∙ ap (λ (m : ℕ). below op e m f) s

pub below-same : (op : ℕ → ℕ → ℕ) (e n : ℕ) (f g : ℕ → ℕ) → ((k : ℕ) → k < n → f k ≡ g k) → below op e n f ≡ below op e n g
unfolding below
below-same op e zero f g h = refl
below-same op e (suc n) f g h = rw (below-same op e n f g (λ k l. h k (omega arith)), h n (omega arith))

-- sums

pub below-sum : (n : ℕ) (f g : ℕ → ℕ) → below ◌+◌ 0 n (λ k. f k + g k) ≡ below ◌+◌ 0 n f + below ◌+◌ 0 n g
unfolding below
below-sum zero f g = refl
below-sum (suc n) f g = omega (arith, below-sum n f g)

pub below-at-most : (n m : ℕ) (f : ℕ → ℕ) → ((k : ℕ) → k < n → f k ≤ m) → below ◌+◌ 0 n f ≤ n * m
unfolding below
below-at-most zero m f h = omega arith
below-at-most (suc n) m f h =
    let s : suc n * m ≡ n * m + m = omega (arith, ap (λ (i : ℕ). i * m) (sym (add-one n)) ∙ add-mul n 1 m, one-mul m) in
    omega (arith, below-at-most n m f (λ k l. h k (omega arith)), h n (omega arith))

-- the least

pub least-below : (e n : ℕ) (f : ℕ → ℕ) (k : ℕ) → k < n → below min e n f ≤ f k
unfolding below
least-below e zero f k l = absurd (omega arith)
least-below e (suc n) f k l =
    by_cases (ℕ_discrete k n) (λ s. rw s (omega arith)) (λ s. omega (arith, least-below e n f k (omega arith)))

pub least_above : (e n t : ℕ) (f : ℕ → ℕ) → t < e → ((k : ℕ) → k < n → t < f k) → t < below min e n f
unfolding below
least_above e zero t f l h = l
least_above e (suc n) t f l h = omega (arith, least_above e n t f l (λ k m. h k (omega arith)), h n (omega arith))

-- a fold over a list

module _ (op : ℕ → ℕ → ℕ) (e : ℕ) (commutes : (a b : ℕ) → op a b ≡ op b a) (associates : (a b c : ℕ) → op (op a b) c ≡ op a (op b c)) where
  first-apart : (n : ℕ) (f : ℕ → ℕ) → below op e (suc n) f ≡ op (f 0) (below op e n (λ k. f (suc k)))
  unfolding below
  first-apart zero f = commutes e (f 0)
  first-apart (suc n) f =
      rw (← associates (f 0) (below op e n (λ k. f (suc k))) (f (suc n))) (ap (λ (x : ℕ). op x (f (suc n))) (first-apart n f))

  pub over-places : (fold : List TaskRecord → ℕ) (f : TaskRecord → ℕ) → fold [] ≡ e
      → ((τ : TaskRecord) (τs : List TaskRecord) → fold (τ ∷ τs) ≡ op (f τ) (fold τs)) → (τs : List TaskRecord)
      → fold τs ≡ below op e (length τs) (λ k. f (lane τs k))
  over-places fold f none more [] = none ∙ joined-none op e (λ k. f (lane [] k))
  over-places fold f none more (τ ∷ τs) =
      more τ τs ∙ ap (op (f τ)) (over-places fold f none more τs) ∙ sym (first-apart (length τs) (λ k. f (lane (τ ∷ τs) k)))
