-- The search looks at one number after the other. What it is to find is kept as what is to be found
-- from the number that it has reached. Assumes nothing.
use Rattle.std.specs.Prelude.{None, Option, Some}
use Prim.Native.Nat.{ℕ, zero, suc, ◌+◌, ◌-◌, ◌^◌, ◌≤◌, ◌<◌}
use mathlib.Core.Path.{◌≡◌, refl, sym, ap, ◌∙◌}
use mathlib.Core.Bool.{Bool, true, false, cond, not}
use mathlib.Core.Logic.{by_cases}
use native.Mathlib.Omega.{arith}
use native.Mathlib.Decide.{ℕ_discrete}
use Rattle.model.specs.Lists.{lowest_from, list_fits}
use Rattle.model.proofs.Lowest.{lowest-within, scan-next, scan-here, scan-end}
use Rattle.enumerating.specs.Numbers.{list_of}
use Rattle.enumerating.specs.Search.{passed_over, next_number, entry_of, found_at, next_found, if_fitting}
use Rattle.enumerating.specs.declared.FittingList.{FittingList}

-- what the lowest number that is not passed over is
pub record LowestFound (f : ℕ → Bool) (a k : ℕ) : Type 0 where
  pub above : a ≤ k
  pub stays : f k ≡ false
  pub before : (i : ℕ) → a ≤ i → i < k → f i ≡ true

pub lowest-found : (f : ℕ → Bool) (a n k : ℕ) → lowest_from f a n ≡ Some k → LowestFound f a k
unfolding lowest_from
lowest-found f a zero k e = let z : ◌≡◌ {A = ℕ} 0 1 = cc in absurd (omega arith)
lowest-found f a (suc n) k e = go (f a) refl e (lowest-found f (suc a) n k)
  where
    go : (b : Bool) → f a ≡ b → cond b (lowest_from f (suc a) n) (Some a) ≡ Some k → (lowest_from f (suc a) n ≡ Some k → LowestFound f (suc a) k) → LowestFound f a k
    go true p q later =
        let r = later q in
        record {
          above = omega (arith, r.above);
          stays = r.stays;
          before = λ i h l. by_cases (ℕ_discrete i a) (λ s. ap f s ∙ p) (λ s. r.before i (omega arith) l);
        }
    go false p q later =
        let s : a ≡ k = cc in record { above = omega arith; stays = ap f (sym s) ∙ p; before = λ i h l. absurd (omega arith) }

-- a list that is found fits, and one that is not found does not
found-fits : (b : Bool) (l k : FittingList) → cond b (Some l) None ≡ Some k → (not b ≡ false) × (l ≡ k)
found-fits true l k e = (refl, cc)
found-fits false l k e = let z : ◌≡◌ {A = ℕ} 0 1 = cc in absurd (omega arith)

not_found : (b : Bool) (l : FittingList) → cond b (Some l) None ≡ None → not b ≡ true
not_found true l e = let z : ◌≡◌ {A = ℕ} 0 1 = cc in absurd (omega arith)
not_found false l e = refl

-- from this number on the search finds what it finds from its start
abbrev pub Reached : (ℕ → ℕ → Bool) → ℕ → ℕ → ℕ → Type 0
Reached fit n start number = next_number fit n start ≡ lowest_from (passed_over fit n) number (2 ^ (n - 1) - number)

module _ (fit : ℕ → ℕ → Bool) (lines costs : ℕ → ℕ → ℕ) (n start : ℕ) where
  pub reached-start : Reached fit n start start
  unfolding next_number
  reached-start = refl

  module _ (number : ℕ) (r : Reached fit n start number) where
    pub reached-next : number < 2 ^ (n - 1) → if_fitting fit lines costs n number ≡ None → Reached fit n start (number + 1)
    reached-next h e =
        let one_less : 2 ^ (n - 1) - number - 1 ≡ 2 ^ (n - 1) - (number + 1) = omega arith in
        r ∙ scan-next (passed_over fit n) number (number + 1) (2 ^ (n - 1) - number) (λ z. omega arith) refl (not_found (list_fits fit n (list_of n number)) (entry_of lines costs n number) e) ∙
        ap (lowest_from (passed_over fit n) (number + 1)) one_less

    pub reached-list : number < 2 ^ (n - 1) → {l : FittingList} → if_fitting fit lines costs n number ≡ Some l → Some l ≡ next_found fit lines costs n start
    reached-list h {l} e =
        let found = found-fits (list_fits fit n (list_of n number)) (entry_of lines costs n number) l e in
        ap Some (sym found.1) ∙
        ap (found_at (entry_of lines costs n)) (sym (r ∙ scan-here (passed_over fit n) number (2 ^ (n - 1) - number) (λ z. omega arith) found.0))

    pub reached-end : 2 ^ (n - 1) ≤ number → None ≡ next_found fit lines costs n start
    reached-end h = ap (found_at (entry_of lines costs n)) (sym (r ∙ scan-end (passed_over fit n) number (2 ^ (n - 1) - number) (omega arith)))

-- a list that is found has a number from the start on, below all numbers
pub found_between : (fit : ℕ → ℕ → Bool) (lines costs : ℕ → ℕ → ℕ) (n start : ℕ) (l : FittingList) → next_found fit lines costs n start ≡ Some l
    → (start ≤ l.number) × (l.number < 2 ^ (n - 1))
unfolding next_number entry_of
found_between fit lines costs n start l e = go (lowest_from (passed_over fit n) start (2 ^ (n - 1) - start)) refl e
  where
    go : (x : Option ℕ) → lowest_from (passed_over fit n) start (2 ^ (n - 1) - start) ≡ x → found_at (entry_of lines costs n) x ≡ Some l
        → (start ≤ l.number) × (l.number < 2 ^ (n - 1))
    go None p q = let z : ◌≡◌ {A = ℕ} 0 1 = cc in absurd (omega arith)
    go (Some m) p q =
        let is : entry_of lines costs n m ≡ l = cc in
        let number_is : m ≡ l.number = ap (λ (l : FittingList). l.number) is in
        let above = (lowest-found (passed_over fit n) start (2 ^ (n - 1) - start) m p).above in
        (omega arith, omega (arith, lowest-within (passed_over fit n) start (2 ^ (n - 1) - start) m p))
