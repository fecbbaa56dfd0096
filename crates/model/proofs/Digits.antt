-- The binary digits of a number, as a set. A number is taken apart into its lowest digit and its half, so each law is an induction on the width.
-- Assumes nothing.
use mathlib.Core.Bool.{Bool, true, false, ◌&&◌, ◌||◌}
use mathlib.Core.Path.{◌≡◌, refl, sym, ap, ap₂, ◌∙◌, fun_ext}
use Prim.Native.Nat.{ℕ, zero, suc, ◌+◌, ◌*◌, ◌/◌, ◌%◌, ◌^◌, ◌≤◌, ◌<◌, zero-le}
use native.Mathlib.Nat.{le_refl, le_of_suc-le-suc, not-suc-le-zero, zero-lt-suc, zero-add, add-zero, add-suc, add_assoc, one-mul, mul_assoc, pow-suc}
use native.Mathlib.Nat.{zero-div, zero-mod, zero-mul, div-one, mod-lt, mul-div_cancel, mul-mod_left, div-add-mod'}
use native.Mathlib.Numerals.{one-add}
use native.Mathlib.Omega.{arith}
use native.Mathlib.Decide.{ℕ_discrete}
use mathlib.Core.Logic.{by_cases}
use borrow.Author.Tests.{eq-eqb, ne_eqb}
use lib.Arith.{lt-one}
use lib.Bits.{bit_and, bit_or, and_shr, and_mod, or_shr, or_mod}
use lib.Count.{ones, ones_step}
use lib.Dec.{eqb, lit<, eqb-suc-suc, eqb-suc-zero, eqb-zero-suc}
use lib.Pow.{shl_exact, shr-shr}
use mir.Val.{bool_byte}
use Rattle.model.specs.Sets.{Lines, bit, digit, count_below, digits_below}

bit-eqb : {n : ℕ} → n < 2 → bit (eqb n 1) ≡ n
bit-eqb {n = zero} h = refl
bit-eqb {n = suc zero} h = refl
bit-eqb {n = suc (suc n)} h = absurd (omega arith)

bit_le : (b : Bool) → bit b ≤ 1
bit_le true = le_refl 1
bit_le false = zero-le

eqb-bit : (b : Bool) → eqb (bit b) 1 ≡ b
eqb-bit true = refl
eqb-bit false = refl

mod-two : (a : ℕ) → a % 2 < 2
mod-two a = mod-lt a (zero-lt-suc 1)

digit-zero : (a : ℕ) → bit (digit a 0) ≡ a % 2
digit-zero a = ap (λ (x : ℕ). bit (eqb (x % 2) 1)) (div-one a) ∙ bit-eqb (mod-two a)

digit-suc : (a j : ℕ) → digit a (suc j) ≡ digit (a / 2) j
digit-suc a j = rw (← one-add j, ← shr-shr a 1 j)

-- ---- digits of an or, of an and, of an exclusive or, of a power

module _ (op : ℕ → ℕ → ℕ) (f : Bool → Bool → Bool)
    (high : (a b k : ℕ) → op a b / 2 ^ k ≡ op (a / 2 ^ k) (b / 2 ^ k))
    (low : (a b k : ℕ) → op a b % 2 ^ k ≡ op (a % 2 ^ k) (b % 2 ^ k))
    (each : (u v : ℕ) → u < 2 → v < 2 → eqb (op u v) 1 ≡ f (eqb u 1) (eqb v 1)) where
  digit-op : (a b j : ℕ) → digit (op a b) j ≡ f (digit a j) (digit b j)
  digit-op a b j =
      ap (λ (x : ℕ). eqb (x % 2) 1) (high a b j)
      ∙ ap (λ (x : ℕ). eqb x 1) (low (a / 2 ^ j) (b / 2 ^ j) 1)
      ∙ each (a / 2 ^ j % 2) (b / 2 ^ j % 2) (mod-two (a / 2 ^ j)) (mod-two (b / 2 ^ j))

or-each : (u v : ℕ) → u < 2 → v < 2 → eqb (bit_or u v) 1 ≡ (eqb u 1 || eqb v 1)
or-each zero v hu hv = refl
or-each (suc zero) zero hu hv = refl
or-each (suc zero) (suc zero) hu hv = refl
or-each (suc zero) (suc (suc v)) hu hv = absurd (omega arith)
or-each (suc (suc u)) v hu hv = absurd (omega arith)

and-each : (u v : ℕ) → u < 2 → v < 2 → eqb (bit_and u v) 1 ≡ (eqb u 1 && eqb v 1)
and-each zero v hu hv = refl
and-each (suc zero) zero hu hv = refl
and-each (suc zero) (suc zero) hu hv = refl
and-each (suc zero) (suc (suc v)) hu hv = absurd (omega arith)
and-each (suc (suc u)) v hu hv = absurd (omega arith)

pub digit_or : (a b j : ℕ) → digit (bit_or a b) j ≡ (digit a j || digit b j)
digit_or = digit-op bit_or ◌||◌ or_shr or_mod or-each

pub digit_and : (a b j : ℕ) → digit (bit_and a b) j ≡ (digit a j && digit b j)
digit_and = digit-op bit_and ◌&&◌ and_shr and_mod and-each

pub digit-of-zero : (j : ℕ) → digit 0 j ≡ false
digit-of-zero j = ap (λ (x : ℕ). eqb (x % 2) 1) (zero-div (2 ^ j))

digit-pow : (k j : ℕ) → digit (2 ^ k) j ≡ eqb j k
digit-pow zero zero = refl
digit-pow zero (suc j) = digit-suc 1 j ∙ digit-of-zero j ∙ sym (eqb-suc-zero j)
digit-pow (suc k) zero = rw (div-one, pow-suc, mul-mod_left) (sym (eqb-zero-suc k))
digit-pow (suc k) (suc j) =
    digit-suc (2 ^ suc k) j
    ∙ ap (λ (x : ℕ). digit x j) (ap (λ (x : ℕ). x / 2) (pow-suc 2 k) ∙ mul-div_cancel (2 ^ k) (zero-lt-suc 1))
    ∙ digit-pow k j
    ∙ sym (eqb-suc-suc j k)

-- a bit shifted left by k within a width
pub digit-shl : (b : Bool) (width k j : ℕ) → k < width → digit (bool_byte b * 2 ^ k % 2 ^ width) j ≡ (b && eqb j k)
digit-shl true width k j h = rw (shl_exact 1 k width (lit< tt) (omega arith), one-mul) (digit-pow k j)
digit-shl false width k j h = rw (zero-mul, zero-mod) (digit-of-zero j)

-- ---- counts

pub count-agree : (n : ℕ) {s t : Lines} → ((c : ℕ) → c < n → s c ≡ t c) → count_below n s ≡ count_below n t
unfolding count_below
count-agree zero h = refl
count-agree (suc n) h =
    ap₂ (λ (x : ℕ) (b : Bool). x + bit b) (count-agree n (λ c l. h c (omega arith))) (h n (le_refl (suc n)))

pub count_add : (n m : ℕ) (s : Lines) → count_below (n + m) s ≡ count_below n s + count_below m (λ j. s (n + j))
unfolding count_below
count_add n zero s = simp add-zero
count_add n (suc m) s = rw (add-suc, count_add n m s) (add_assoc _ _ _)

count-first : (n : ℕ) (s : Lines) → count_below (suc n) s ≡ bit (s 0) + count_below n (λ j. s (suc j))
unfolding count_below
count-first zero s = omega arith
count-first (suc n) s = rw (count-first n s) (add_assoc _ _ _)

half_lt : (n : ℕ) {a : ℕ} → a < 2 ^ suc n → a / 2 < 2 ^ n
half_lt n h = omega (arith, pow-suc 2 n)

-- the count of ones of a number of n digits
pub count_ones : (n a : ℕ) → a < 2 ^ n → ones a ≡ count_below n (digit a)
unfolding count_below ones
count_ones zero a h = ap ones (lt-one h)
count_ones (suc n) a h =
    ones_step a
    ∙ ap₂ (λ (x y : ℕ). x + y) (sym (digit-zero a))
    (count_ones n (a / 2) (half_lt n h) ∙ ap (count_below n) (fun_ext (λ j. sym (digit-suc a j))))
    ∙ sym (count-first n (digit a))

pub count-le : (n : ℕ) (s : Lines) → count_below n s ≤ n
unfolding count_below
count-le zero s = zero-le
count-le (suc n) s = omega (arith, count-le n s, bit_le (s n))

bit-within : (a b : Bool) → (a ≡ true → b ≡ true) → bit a ≤ bit b
bit-within true b h = rw (h refl) (le_refl 1)
bit-within false b h = zero-le

-- a set within another has at most its count
pub count-within : (n : ℕ) {s t : Lines} → ((c : ℕ) → s c ≡ true → t c ≡ true) → count_below n s ≤ count_below n t
unfolding count_below
count-within zero h = zero-le
count-within (suc n) {s} {t} h = omega (arith, count-within n h, bit-within (s n) (t n) (h n))

pub count_none : (n : ℕ) (s : Lines) → ((c : ℕ) → c < n → s c ≡ false) → count_below n s ≡ 0
unfolding count_below
count_none zero s h = refl
count_none (suc n) s h = rw (count_none n s (λ c l. h c (omega arith)), h n (le_refl (suc n)))

-- a set of one line at most
pub count-one : (n d : ℕ) (s : Lines) → d < n → count_below n (λ c. eqb c d && s c) ≡ bit (s d)
unfolding count_below
count-one zero d s h = absurd (omega arith)
count-one (suc n) d s h =
    by_cases (ℕ_discrete n d)
    (λ e. rw (count_none n (λ c. eqb c d && s c) (λ c l. rw (ne_eqb c d (λ f. omega arith))), eq-eqb n d e, e) (zero-add (bit (s d))))
    (λ e. rw (count-one n d s (omega arith), ne_eqb n d e) (add-zero (bit (s d))))

-- two sets have as many lines as two others where they do on each line
pub count-sum : (n : ℕ) (q r s t : Lines) → ((c : ℕ) → c < n → bit (q c) + bit (r c) ≡ bit (s c) + bit (t c))
    → count_below n q + count_below n r ≡ count_below n s + count_below n t
unfolding count_below
count-sum zero q r s t h = refl
count-sum (suc n) q r s t h = omega (arith, count-sum n q r s t (λ c l. h c (omega arith)), h n (le_refl (suc n)))

-- ---- numbers from digits

pub digits-agree : (n : ℕ) {s t : Lines} → ((c : ℕ) → c < n → s c ≡ t c) → digits_below n s ≡ digits_below n t
unfolding digits_below
digits-agree zero h = refl
digits-agree (suc n) h =
    ap₂ (λ (x : ℕ) (b : Bool). x + bit b * 2 ^ n) (digits-agree n (λ c l. h c (omega arith))) (h n (le_refl (suc n)))

digits-first : (n : ℕ) (s : Lines) → digits_below (suc n) s ≡ digits_below n (λ j. s (suc j)) * 2 + bit (s 0)
unfolding digits_below
digits-first zero s = omega arith
digits-first (suc n) s = rw (digits-first n s, pow-suc) (omega (arith, mul_assoc (bit (s (suc n))) (2 ^ n) 2))

pub digits_lt : (n : ℕ) (s : Lines) → digits_below n s < 2 ^ n
unfolding digits_below
digits_lt zero s = lit< tt
digits_lt (suc n) s = omega (arith, digits-first n s, digits_lt n (λ j. s (suc j)), bit_le (s 0), pow-suc 2 n)

-- digit j of the number is the set's line j
pub digit-digits : (n : ℕ) (s : Lines) (j : ℕ) → j < n → digit (digits_below n s) j ≡ s j
digit-digits zero s j h = absurd (not-suc-le-zero h)
digit-digits (suc n) s zero h =
    let e : digits_below (suc n) s / 1 % 2 ≡ bit (s 0) = omega (arith, digits-first n s, bit_le (s 0)) in
    ap (λ (x : ℕ). eqb x 1) e ∙ eqb-bit (s 0)
digit-digits (suc n) s (suc j) h =
    digit-suc (digits_below (suc n) s) j
    ∙ ap (λ (x : ℕ). digit x j) (omega (arith, digits-first n s, bit_le (s 0)))
    ∙ digit-digits n (λ i. s (suc i)) j (le_of_suc-le-suc h)

-- a number of n digits is made of its digits
pub digits-digit : (n a : ℕ) → a < 2 ^ n → digits_below n (digit a) ≡ a
unfolding digits_below
digits-digit zero a h = sym (lt-one h)
digits-digit (suc n) a h =
    digits-first n (digit a)
    ∙ ap₂ (λ (x y : ℕ). x * 2 + y)
    (ap (digits_below n) (fun_ext (digit-suc a)) ∙ digits-digit n (a / 2) (half_lt n h))
    (digit-zero a)
    ∙ div-add-mod' a 2
