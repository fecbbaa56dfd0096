-- The lowest place at which a test fails: what it says of the places before it, and how it is looked for one by one.
-- Assumes nothing.
use Rattle.std.specs.Prelude.{None, Some}
use Prim.Native.Nat.{ℕ, zero, suc, ◌+◌, ◌-◌, ◌<◌, ◌≤◌}
use mathlib.Core.Path.{◌≡◌, refl}
use mathlib.Core.Bool.{Bool, true, false, cond}
use mathlib.Core.Logic.{by_cases}
use native.Mathlib.Numerals.{add-one}
use native.Mathlib.Omega.{arith}
use native.Mathlib.Decide.{ℕ_discrete}
use Rattle.model.specs.Lists.{lowest_from}

pub lowest-nowhere : (f : ℕ → Bool) (a n : ℕ) → lowest_from f a n ≡ None → (k : ℕ) → a ≤ k → k < a + n → f k ≡ true
unfolding lowest_from
lowest-nowhere f a zero e k h l = absurd (omega arith)
lowest-nowhere f a (suc n) e k h l = go (f a) refl e (lowest-nowhere f (suc a) n)
  where
    go : (b : Bool) → f a ≡ b → cond b (lowest_from f (suc a) n) (Some a) ≡ None
        → (lowest_from f (suc a) n ≡ None → (k : ℕ) → suc a ≤ k → k < suc a + n → f k ≡ true) → f k ≡ true
    go true p q ih = by_cases (ℕ_discrete k a) (λ s. rw s p) (λ s. ih q k (omega arith) (omega arith))
    go false p q ih = let z : ◌≡◌ {A = ℕ} 0 1 = cc in absurd (omega arith)

pub nowhere-lowest : (f : ℕ → Bool) (a n : ℕ) → ((k : ℕ) → a ≤ k → k < a + n → f k ≡ true) → lowest_from f a n ≡ None
unfolding lowest_from
nowhere-lowest f a zero h = refl
nowhere-lowest f a (suc n) h = rw (h a (omega arith) (omega arith)) (nowhere-lowest f (suc a) n (λ k l m. h k (omega arith) (omega arith)))

pub lowest-at : (f : ℕ → Bool) (a n k : ℕ) → a ≤ k → k < a + n → ((i : ℕ) → a ≤ i → i < k → f i ≡ true) → f k ≡ false → lowest_from f a n ≡ Some k
unfolding lowest_from
lowest-at f a zero k h l t e = absurd (omega arith)
lowest-at f a (suc n) k h l t e =
    by_cases (ℕ_discrete a k) (λ s. rw (s, e))
    (λ s. rw (t a (omega arith) (omega arith)) (lowest-at f (suc a) n k (omega arith) (omega arith) (λ i j m. t i (omega arith) m) e))

pub lowest-within : (f : ℕ → Bool) (a n k : ℕ) → lowest_from f a n ≡ Some k → k < a + n
unfolding lowest_from
lowest-within f a zero k e = let z : ◌≡◌ {A = ℕ} 0 1 = cc in absurd (omega arith)
lowest-within f a (suc n) k e = go (f a) e (lowest-within f (suc a) n k)
  where
    go : (b : Bool) → cond b (lowest_from f (suc a) n) (Some a) ≡ Some k → (lowest_from f (suc a) n ≡ Some k → k < suc a + n) → k < a + suc n
    go true q ih = omega (arith, ih q)
    go false q ih = let s : a ≡ k = cc in omega arith

-- the place that is found fails, and none before it does
pub lowest-found : (f : ℕ → Bool) (a n k : ℕ) → lowest_from f a n ≡ Some k → (a ≤ k) × (f k ≡ false) × ((i : ℕ) → a ≤ i → i < k → f i ≡ true)
unfolding lowest_from
lowest-found f a zero k e = let z : ◌≡◌ {A = ℕ} 0 1 = cc in absurd (omega arith)
lowest-found f a (suc n) k e = go (f a) refl e (lowest-found f (suc a) n k)
  where
    go : (b : Bool) → f a ≡ b → cond b (lowest_from f (suc a) n) (Some a) ≡ Some k
        → (lowest_from f (suc a) n ≡ Some k → (suc a ≤ k) × (f k ≡ false) × ((i : ℕ) → suc a ≤ i → i < k → f i ≡ true))
        → (a ≤ k) × (f k ≡ false) × ((i : ℕ) → a ≤ i → i < k → f i ≡ true)
    go true p q ih =
        let later = ih q in
        (omega arith, later.1, λ i l u. by_cases (ℕ_discrete i a) (λ s. rw s p) (λ s. later.2 i (omega arith) u))
    go false p q ih = let s : a ≡ k = cc in (omega arith, rw (← s) p, λ i l u. absurd (omega arith))

-- looked for one by one

-- what is looked at is right: on to the next
pub scan-next : (f : ℕ → Bool) (a b n : ℕ) → (n ≡ 0 → ⊥) → b ≡ a + 1 → f a ≡ true → lowest_from f a n ≡ lowest_from f b (n - 1)
unfolding lowest_from
scan-next f a b zero h s e = absurd (h refl)
scan-next f a b (suc n) h s e = let m : suc n - 1 ≡ n = omega arith in rw (e, s, add-one, m)

-- it is wrong: it is the lowest
pub scan-here : (f : ℕ → Bool) (a n : ℕ) → (n ≡ 0 → ⊥) → f a ≡ false → lowest_from f a n ≡ Some a
scan-here f a n h e = lowest-at f a n a (omega arith) (omega arith) (λ i l u. absurd (omega arith)) e

-- none is left
pub scan-end : (f : ℕ → Bool) (a n : ℕ) → n ≡ 0 → lowest_from f a n ≡ None
unfolding lowest_from
scan-end f a n e = rw e
