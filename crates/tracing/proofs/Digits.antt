-- Hexadecimal digits: what bytes are none, how much a digit counts, and the bits of the digits, by one test over all of them.
-- Assumes nothing.
use Prim.Native.Nat.{ℕ, zero, suc, ◌+◌, ◌-◌, ◌*◌, ◌/◌, ◌%◌, ◌^◌, ◌<◌, ◌≤◌}
use mathlib.Core.Path.{◌≡◌, refl, sym, ◌∙◌}
use mathlib.Core.Bool.{Bool, true, false, cond, ◌&&◌, ◌||◌, and-false, and-eq-true_iff, false≢true}
use mathlib.Core.Logic.{by_cases}
use native.Mathlib.Nat.{zero-add, add-zero, add-suc, suc-add}
use native.Mathlib.Decide.{dec_le}
use native.Mathlib.Omega.{arith}
use borrow.Author.Tests.{lt-leb, leb-true, eqb-true}
use lib.Dec.{eqb, leb}
use Rattle.tracing.specs.Din.{line_feed, is_label, is_hex, digit_of}

pub hex-low : (b : ℕ) → b < 48 → is_hex b ≡ false
unfolding is_hex
hex-low b h = rw (lt-leb 48 b h, lt-leb 65 b (omega arith), lt-leb 97 b (omega arith))

pub hex-high : (b : ℕ) → 102 < b → is_hex b ≡ false
unfolding is_hex
hex-high b h = simp (lt-leb b 57 (omega arith), lt-leb b 70 (omega arith), lt-leb b 102 h, and-false)

pub digit-small : (b : ℕ) → is_hex b ≡ true → digit_of b < 16
unfolding is_hex digit_of
digit-small b = go (leb b 57) (leb b 70) refl refl
  where
    go : (t u : Bool) → leb b 57 ≡ t → leb b 70 ≡ u → (leb 48 b && t || leb 65 b && u || leb 97 b && leb b 102) ≡ true
        → cond t (b - 48) (cond u (b - 55) (b - 87)) < 16
    go true u p q e = omega (arith, leb-true b 57 p)
    go false true p q e = omega (arith, leb-true b 70 q)
    go false false p q e = omega (arith, leb-true b 102 ((and-eq-true_iff (leb 97 b) (leb b 102)).0 (simp and-false at e)).1)

-- which bytes from 48 on are digits, a bit for each
abbrev bits : ℕ
bits = 35465847073801215

-- byte 48 + i is a digit if its bit is 1, and then it counts what is computed
unfoldable right_bit : ℕ → Bool
right_bit i = cond (is_hex (48 + i)) (eqb (bits / 2 ^ i % 2) 1 && eqb ((48 + i) % 16 + (48 + i) / 64 * 9) (digit_of (48 + i))) (eqb (bits / 2 ^ i % 2) 0)

-- the same of the n bytes from 48 + i on
unfoldable right_bits : ℕ → ℕ → Bool
right_bits i zero = true
right_bits i (suc n) = right_bit i && right_bits (suc i) n

right-at : (i n j : ℕ) → right_bits i n ≡ true → j < n → right_bit (i + j) ≡ true
unfolding right_bits
right-at i zero j e h = absurd (omega arith)
right-at i (suc n) zero e h = rw add-zero ((and-eq-true_iff (right_bit i) (right_bits (suc i) n)).0 e).0
right-at i (suc n) (suc j) e h = rw (add-suc, ← suc-add) (right-at (suc i) n j ((and-eq-true_iff (right_bit i) (right_bits (suc i) n)).0 e).1 (omega arith))

all_right : right_bits 0 55 ≡ true
unfolding right_bits right_bit is_hex digit_of
all_right = refl

module _ (b : ℕ) (least : 48 ≤ b) (most : b ≤ 102) where
  right-here : cond (is_hex b) (eqb (bits / 2 ^ (b - 48) % 2) 1 && eqb (b % 16 + b / 64 * 9) (digit_of b)) (eqb (bits / 2 ^ (b - 48) % 2) 0) ≡ true
  unfolding right_bit
  right-here =
      let back : 48 + (b - 48) ≡ b = omega arith in
      rw back at (rw zero-add at (right-at 0 55 (b - 48) all_right (omega arith)))

  pub bit-right : eqb (bits / 2 ^ (b - 48) % 2) 1 ≡ is_hex b
  bit-right = go (is_hex b) right-here
    where
      go : (t : Bool) → cond t (eqb (bits / 2 ^ (b - 48) % 2) 1 && eqb (b % 16 + b / 64 * 9) (digit_of b)) (eqb (bits / 2 ^ (b - 48) % 2) 0) ≡ true
          → eqb (bits / 2 ^ (b - 48) % 2) 1 ≡ t
      go true e = ((and-eq-true_iff (eqb (bits / 2 ^ (b - 48) % 2) 1) _).0 e).0
      go false e = rw (eqb-true (bits / 2 ^ (b - 48) % 2) 0 e) refl

  counted : is_hex b ≡ true → b % 16 + b / 64 * 9 ≡ digit_of b
  counted h = eqb-true _ (digit_of b) ((and-eq-true_iff (eqb (bits / 2 ^ (b - 48) % 2) 1) _).0 (rw h at right-here)).1

pub digit-counted : (b : ℕ) → is_hex b ≡ true → b % 16 + b / 64 * 9 ≡ digit_of b
digit-counted b h = by_cases (dec_le 48 b) above (λ w. absurd (false≢true (sym (hex-low b (omega arith)) ∙ h)))
  where
    above : 48 ≤ b → b % 16 + b / 64 * 9 ≡ digit_of b
    above least = by_cases (dec_le b 102) (λ most. counted b least most h) (λ w. absurd (false≢true (sym (hex-high b (omega arith)) ∙ h)))

-- neither a label nor a digit is a line feed
pub label-no-feed : (b : ℕ) → is_label b ≡ true → eqb b line_feed ≡ false
unfolding is_label
label-no-feed b l = go (eqb b line_feed) refl
  where
    go : (t : Bool) → eqb b line_feed ≡ t → t ≡ false
    go false e = refl
    go true e = absurd (false≢true (rw (eqb-true b line_feed e) at l))

pub hex-no-feed : (b : ℕ) → is_hex b ≡ true → eqb b line_feed ≡ false
unfolding is_hex
hex-no-feed b h = go (eqb b line_feed) refl
  where
    go : (t : Bool) → eqb b line_feed ≡ t → t ≡ false
    go false e = refl
    go true e = absurd (false≢true (rw (eqb-true b line_feed e) at h))
