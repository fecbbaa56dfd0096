-- Charges of a list: each line of H has one first preempter, so the charges for a line add up to 1, those for a region to its lines, and those
-- for a list to the list's. Assumes nothing.
use Rattle.std.specs.Prelude.{None, Option, Some}
use Prim.Native.Nat.{ℕ, zero, suc, ◌+◌, ◌≤◌, ◌<◌}
use mathlib.Core.Path.{◌≡◌, refl, sym, ap, ap₂, ◌∙◌, fun_ext}
use mathlib.Core.Bool.{Bool, true, false, not, cond, ◌&&◌, ◌||◌, and-eq-true_iff, and-false, false≢true}
use mathlib.Core.Logic.{◌⊎◌, inl, inr, by_cases}
use mathlib.Core.List.{List, [], ◌∷◌}
use native.Mathlib.Nat.{zero-add, add-zero, add-suc, suc-add}
use native.Mathlib.Decide.{dec_lt}
use native.Mathlib.Omega.{arith}
use borrow.Author.Tests.{ne_eqb}
use lib.Dec.{eqb, eqb-suc-suc, eqb-suc-zero, eqb-zero-suc}
use lib.ListN.{length, get_or, get_or-eq_default}
use Rattle.model.specs.Sets.{Lines, bit, count_below, table}
use Rattle.model.specs.Task.{Preempter, Task, preempter_count, no_preempter}
use Rattle.model.specs.Lines.{on_line, any_read, preempter_reads, useful, evicted}
use Rattle.model.specs.Lists.{Region, regions, total, lowest_from}
use Rattle.model.specs.Regions.{loaded, region_lines}
use Rattle.model.specs.Charges.{touches, first_touching, is_at, charged_to, region_charge, charge, charges, sum}
use Rattle.model.specs.Laws.{ChargesAddUp, NoChargeFrom}
use Rattle.model.proofs.Digits.{count_none}
use Rattle.model.proofs.Sets.{table-length, table_at}
use Rattle.model.proofs.LineStates.{any_append}

-- the first preempter that touches a line, if the line is of H

pub record Touched (m : ℕ) (p : Option ℕ) : Type 0 where
  pub index : ℕ
  pub is-at : p ≡ Some index
  pub below : index < m

-- a line is of H where it has a first preempter, below m, and it has none where it is not
abbrev pub FirstOf : ℕ → Bool → Option ℕ → Type 0
FirstOf m h p = ((h ≡ false) × (p ≡ None)) ⊎ ((h ≡ true) × Touched m p)

-- of the preempters from index a on, f tells which do not touch the line
first-from : (on : ℕ → Bool) (f : ℕ → Bool) (a : ℕ) (ps : List Preempter) → ((i : ℕ) → f (a + i) ≡ not (any_read on (get_or ps i no_preempter).reads))
    → FirstOf (a + length ps) (any_read on (preempter_reads ps)) (lowest_from f a (length ps))
unfolding preempter_reads lowest_from any_read
first-from on f a [] is = inl (refl, refl)
first-from on f a (p ∷ ps) is =
    rw (any_append on p.reads (preempter_reads ps))
    (go (any_read on p.reads) (rw add-zero at (is 0)) (first-from on f (suc a) ps (λ i. rw (suc-add, ← add-suc) (is (suc i)))))
  where
    go : (b : Bool) → f a ≡ not b → FirstOf (suc a + length ps) (any_read on (preempter_reads ps)) (lowest_from f (suc a) (length ps))
        → FirstOf (a + suc (length ps)) (b || any_read on (preempter_reads ps)) (cond (f a) (lowest_from f (suc a) (length ps)) (Some a))
    go true e later = rw e (inr (refl, record { index = a; is-at = refl; below = omega arith }))
    go false e (inl none) = rw e (inl none)
    go false e (inr some) = rw e (inr (some.0, record { index = some.1.index; is-at = some.1.is-at; below = omega (arith, some.1.below) }))

pub first_of : (t : Task) (c : ℕ) → FirstOf (preempter_count t) (evicted t c) (first_touching t c)
unfolding evicted first_touching touches
first_of t c = rw zero-add at (first-from (on_line t c) (λ i. not (touches t i c)) 0 t.preempters (λ i. rw zero-add refl))

-- sums of tables

sum-none : (n : ℕ) (f : ℕ → ℕ) → ((i : ℕ) → f i ≡ 0) → sum (table n f) ≡ 0
unfolding table sum
sum-none zero f h = refl
sum-none (suc n) f h = rw (h 0, sum-none n (λ i. f (suc i)) (λ i. h (suc i)))

sum-add : (n : ℕ) (f g : ℕ → ℕ) → sum (table n (λ i. f i + g i)) ≡ sum (table n f) + sum (table n g)
unfolding table sum
sum-add zero f g = refl
sum-add (suc n) f g = omega (arith, sum-add n (λ i. f (suc i)) (λ i. g (suc i)))

sum_one : (n k : ℕ) → k < n → sum (table n (λ i. bit (eqb i k))) ≡ 1
unfolding table sum
sum_one zero k h = absurd (omega arith)
sum_one (suc n) zero h = rw (sum-none n (λ i. bit (eqb (suc i) 0)) (λ i. rw (eqb-suc-zero i)))
sum_one (suc n) (suc k) h =
    let same : ◌≡◌ {A = ℕ → ℕ} (λ i. bit (eqb (suc i) (suc k))) (λ i. bit (eqb i k)) = fun_ext (λ i. ap bit (eqb-suc-suc i k)) in
    rw (eqb-zero-suc k, same) (zero-add _ ∙ sum_one n k (omega arith))

-- the lines of a set, each counted where its place is
sum-places : (m n : ℕ) (s : Lines) (p : ℕ → Option ℕ) → ((c : ℕ) → s c ≡ true → Touched m (p c))
    → sum (table m (λ i. count_below n (λ c. s c && is_at i (p c)))) ≡ count_below n s
unfolding count_below
sum-places m zero s p h = sum-none m (λ i. 0) (λ i. refl)
sum-places m (suc n) s p h =
    sum-add m (λ i. count_below n (λ c. s c && is_at i (p c))) (λ i. bit (s n && is_at i (p n))) ∙
    ap₂ ◌+◌ (sum-places m n s p h) (one (s n) (h n))
  where
    one : (b : Bool) → (b ≡ true → Touched m (p n)) → sum (table m (λ i. bit (b && is_at i (p n)))) ≡ bit b
    one true k = let w = k refl in rw w.is-at (sum_one m w.index w.below)
    one false k = sum-none m (λ i. 0) (λ i. refl)

sum-total : (n : ℕ) (g : ℕ → ℕ → ℕ → ℕ) (h : ℕ → ℕ → ℕ) → ((a b : ℕ) → sum (table n (λ i. g i a b)) ≡ h a b) → (rs : List Region)
    → sum (table n (λ i. total (g i) rs)) ≡ total h rs
unfolding total
sum-total n g h e [] = sum-none n (λ i. 0) (λ i. refl)
sum-total n g h e (r ∷ rs) =
    sum-add n (λ i. g i r.from r.to) (λ i. total (g i) rs) ∙ ap₂ ◌+◌ (e r.from r.to) (sum-total n g h e rs)

-- a loaded line is of H
loaded-touched : (t : Task) (a b c : ℕ) → preempter_count t ≤ 32 → loaded t a b c ≡ true → Touched 32 (first_touching t c)
unfolding loaded
loaded-touched t a b c most e = go (first_of t c)
  where
    of-h : evicted t c ≡ true
    of-h = ((and-eq-true_iff (useful t a c) (evicted t c)).0 ((and-eq-true_iff (useful t a c && evicted t c) _).0 e).0).1

    go : FirstOf (preempter_count t) (evicted t c) (first_touching t c) → Touched 32 (first_touching t c)
    go (inl none) = absurd (false≢true (sym none.0 ∙ of-h))
    go (inr some) = record { index = some.1.index; is-at = some.1.is-at; below = omega (arith, some.1.below) }

pub charges-add-up : ChargesAddUp
unfolding charges charge region_charge region_lines charged_to
charges-add-up t most ps =
    sum-total 32 (region_charge t) (region_lines t) (λ a b. sum-places 32 512 (loaded t a b) (first_touching t) (λ c e. loaded-touched t a b c most e)) (regions _ 0 ps)

-- no line's first preempter is one that the task has not

not-charged : (t : Task) (i c : ℕ) → preempter_count t ≤ i → charged_to t i c ≡ false
unfolding charged_to
not-charged t i c h = go (first_of t c)
  where
    go : FirstOf (preempter_count t) (evicted t c) (first_touching t c) → is_at i (first_touching t c) ≡ false
    go (inl none) = rw none.1
    go (inr some) = let w = some.1 in rw w.is-at (ne_eqb i w.index (λ e. omega (arith, w.below)))

none-total : (f : ℕ → ℕ → ℕ) → ((a b : ℕ) → f a b ≡ 0) → (rs : List Region) → total f rs ≡ 0
unfolding total
none-total f h [] = refl
none-total f h (r ∷ rs) = rw (h r.from r.to, none-total f h rs)

pub no-charge-from : NoChargeFrom
unfolding charges charge region_charge
no-charge-from t ps i h =
    by_cases (dec_lt i 32)
    (λ l. table_at 32 (charge t ps) i l ∙ none-total (region_charge t i) (λ a b. count_none 512 _ (λ c _. rw (not-charged t i c h) (and-false (loaded t a b c)))) (regions _ 0 ps))
    (λ l. get_or-eq_default (table 32 (charge t ps)) 0 {n = i} (omega (arith, table-length 32 (charge t ps))))
