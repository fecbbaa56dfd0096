-- A number in digits: its last digit behind those of a tenth of it, so that the digits say the number again.
-- Assumes nothing.
use Prim.Native.Nat.{ℕ, zero, suc, ◌+◌, ◌-◌, ◌*◌, ◌/◌, ◌%◌, ◌^◌, ◌<◌}
use mathlib.Core.Path.{◌≡◌, refl, ◌∙◌}
use mathlib.Core.Bool.{Bool, true, false, cond, and-eq-true_iff}
use mathlib.Core.List.{List, [], ◌∷◌, ◌++◌}
use native.Mathlib.Nat.{add-mul, mul_assoc, pow-succ', div-add-mod', div-lt_iff_lt-mul, mod-lt}
use native.Mathlib.Omega.{arith}
use borrow.Author.Tests.{ltb-true, lt-ltb, le-leb}
use lib.Dec.{ltb}
use lib.ListN.{length, length-append}
use Rattle.decimals.specs.Decimals.{is_digit, all_digits, value, digits_of, spelled}

-- one digit more at the end
value-last : (xs : List ℕ) (b : ℕ) → value (xs ++ (b ∷ [])) ≡ value xs * 10 + (b - 48)
unfolding value
value-last [] b = omega arith
value-last (x ∷ xs) b =
    let more : length (xs ++ (b ∷ [])) ≡ suc (length xs) = length-append xs (b ∷ []) ∙ omega arith in
    rw (more, value-last xs b, pow-succ' 10 (length xs))
    (omega (arith, add-mul ((x - 48) * 10 ^ length xs) (value xs) 10, mul_assoc (x - 48) (10 ^ length xs) 10, mul_assoc (x - 48) 10 (10 ^ length xs)))

digits_last : (xs : List ℕ) (b : ℕ) → all_digits xs ≡ true → is_digit b ≡ true → all_digits (xs ++ (b ∷ [])) ≡ true
unfolding all_digits
digits_last [] b h k = rw k
digits_last (x ∷ xs) b h k =
    let both = (and-eq-true_iff (is_digit x) (all_digits xs)).0 h in
    rw both.0 (digits_last xs b both.1 k)

tenth : (k n : ℕ) → n < 10 ^ suc k → n / 10 < 10 ^ k
tenth k n h = (div-lt_iff_lt-mul {k = 10} {x = n} {y = 10 ^ k} (omega arith)).1 (omega (arith, pow-succ' 10 k))

one-digit : (d : ℕ) → d < 10 → is_digit (48 + d) ≡ true
one-digit d h = rw (le-leb 48 (48 + d) (omega arith), le-leb (48 + d) 57 (omega arith)) refl

-- more room makes no more digits
digits_more : (k n : ℕ) → n < 10 ^ suc k → digits_of (suc (suc k)) n ≡ digits_of (suc k) n
unfolding digits_of
digits_more zero n l = rw (lt-ltb n 10 (omega arith))
digits_more (suc k) n l = rw (digits_more k (n / 10) (tenth (suc k) n l))

-- a number's digits are its last behind those of a tenth of it
pub spelled_step : (n : ℕ) → n < 10 ^ 10 → spelled n ≡ cond (ltb n 10) ((48 + n) ∷ []) (spelled (n / 10) ++ ((48 + n % 10) ∷ []))
unfolding digits_of
spelled_step n h = rw (digits_more 8 (n / 10) (tenth 9 n h))

-- what the digits of a number are, and say
pub record Spells (n : ℕ) (xs : List ℕ) : Type 0 where
  pub says : value xs ≡ n
  pub digits : all_digits xs ≡ true
  pub some : 0 < length xs

one-spells : (n : ℕ) → n < 10 → Spells n ((48 + n) ∷ [])
unfolding value all_digits
one-spells n h = record { says = omega arith; digits = rw (one-digit n h) refl; some = omega arith }

more-spell : (n : ℕ) (xs : List ℕ) → Spells (n / 10) xs → Spells n (xs ++ ((48 + n % 10) ∷ []))
more-spell n xs s =
    let low = mod-lt n {m = 10} (omega arith) in
    record {
      says = value-last xs (48 + n % 10) ∙ omega (arith, s.says, div-add-mod' n 10);
      digits = digits_last xs (48 + n % 10) s.digits (one-digit (n % 10) low);
      some = omega (arith, length-append xs ((48 + n % 10) ∷ []));
    }

digits-spell : (k n : ℕ) → n < 10 ^ suc k → Spells n (digits_of (suc k) n)
unfolding digits_of
digits-spell zero n l = rw (lt-ltb n 10 (omega arith)) (one-spells n (omega arith))
digits-spell (suc k) n l = go (ltb n 10) refl (more-spell n _ (digits-spell k (n / 10) (tenth (suc k) n l)))
  where
    go : (z : Bool) → ltb n 10 ≡ z → Spells n (digits_of (suc k) (n / 10) ++ ((48 + n % 10) ∷ []))
        → Spells n (cond z ((48 + n) ∷ []) (digits_of (suc k) (n / 10) ++ ((48 + n % 10) ∷ [])))
    go true e more = one-spells n (ltb-true n 10 e)
    go false e more = more

pub spelled-spells : (n : ℕ) → n < 10 ^ 10 → Spells n (spelled n)
spelled-spells n h = digits-spell 9 n h
