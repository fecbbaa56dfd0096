-- Sums along the rows of the counts: where one count grows, and where none of a row changes. Assumes nothing.
use Prim.Native.Nat.{ℕ, zero, suc, ◌+◌, ◌-◌, ◌*◌, ◌≤◌, ◌<◌, zero-le}
use mathlib.Core.Path.{◌≡◌, refl, sym, ap₂, ◌∙◌}
use mathlib.Core.Bool.{cond}
use mathlib.Core.List.{List}
use mathlib.Core.Logic.{by_cases}
use native.Mathlib.Decide.{ℕ_discrete, dec_lt}
use native.Mathlib.Nat.{le_refl, add-zero, add-suc}
use native.Mathlib.Omega.{arith}
use lib.Dec.{ltb}
use lib.ListN.{length, get_or, set, replicate, length-replicate, get_or-replicate, get_or-eq_default}
use lib.Seq.{get_or-set_same, get_or-set_other}
use borrow.Author.Tests.{lt-ltb, le-ltb}
use Rattle.reuse.specs.Counts.{row_sum}

-- a row whose counts stay has the same sums
pub row_same : (counts counts' : List ℕ) (i n : ℕ) → ((a : ℕ) → a < n → get_or counts' (64 * i + a) 0 ≡ get_or counts (64 * i + a) 0)
    → row_sum counts' i n ≡ row_sum counts i n
unfolding row_sum
row_same counts counts' i zero h = refl
row_same counts counts' i (suc n) h = ap₂ (λ (x y : ℕ). x + y) (row_same counts counts' i n (λ a l. h a (omega arith))) (h n (le_refl (suc n)))

-- a row of zeros
pub row-zeros : (n i k : ℕ) → row_sum (replicate n 0) i k ≡ 0
unfolding row_sum
row-zeros n i zero = refl
row-zeros n i (suc k) = rw (row-zeros n i k, zeros (64 * i + k)) refl
  where
    zeros : (a : ℕ) → ◌≡◌ {A = ℕ} (get_or (replicate n 0) a 0) 0
    zeros a = by_cases (dec_lt a n) (λ h. get_or-replicate n a 0 0 h) (λ h. get_or-eq_default (replicate n 0) 0 {n = a} (omega (arith, length-replicate {A = ℕ} n 0)))

row-grows : (counts : List ℕ) (i n k : ℕ) → row_sum counts i n ≤ row_sum counts i (n + k)
unfolding row_sum
row-grows counts i n zero = rw add-zero (le_refl _)
row-grows counts i n (suc k) = rw add-suc (omega (arith, row-grows counts i n k))

-- a sum with the next column is at most that of the row
pub row_within : (counts : List ℕ) (i n : ℕ) → n < 64 → row_sum counts i n + get_or counts (64 * i + n) 0 ≤ row_sum counts i 64
unfolding row_sum
row_within counts i n h =
    let there : suc n + (64 - suc n) ≡ 64 = omega arith in
    rw there at (row-grows counts i (suc n) (64 - suc n))

-- column s of row i grows by x
module _ (counts : List ℕ) (i s x : ℕ) (column : s < 64) (inside : 64 * i + s < length counts) where
  abbrev grown : List ℕ
  grown = set counts (64 * i + s) (get_or counts (64 * i + s) 0 + x)

  -- the row's sums grow from the next column on
  pub row_more : (n : ℕ) → row_sum grown i n ≡ row_sum counts i n + cond (ltb s n) x 0
  unfolding row_sum
  row_more zero = rw (le-ltb s 0 zero-le) refl
  row_more (suc n) =
      by_cases (ℕ_discrete n s)
      (λ e.
      rw (row_more n, e, get_or-set_same counts (64 * i + s) (get_or counts (64 * i + s) 0 + x) 0 inside, le-ltb s s (le_refl s), lt-ltb s (suc s) (le_refl (suc s)))
      (omega arith))
      (λ e.
      rw (row_more n, get_or-set_other counts (64 * i + s) (64 * i + n) (get_or counts (64 * i + s) 0 + x) 0 (λ q. e (omega arith)), same n e) (omega arith))
    where
      same : (n : ℕ) → (n ≡ s → ⊥) → ltb s n ≡ ltb s (suc n)
      same n e =
          by_cases (dec_lt s n) (λ h. lt-ltb s n h ∙ sym (lt-ltb s (suc n) (omega arith)))
          (λ h. le-ltb s n (omega arith) ∙ sym (le-ltb s (suc n) (omega arith)))

  -- and those of other rows stay
  pub row_other : (r n : ℕ) → n ≤ 64 → (r ≡ i → ⊥) → row_sum grown r n ≡ row_sum counts r n
  row_other r n h e = row_same counts grown r n (λ a l. get_or-set_other counts (64 * i + s) (64 * r + a) _ 0 (λ q. omega arith))
