-- Numbers in decimal digits. Assumes nothing.
use Rattle.std.specs.Prelude.{ℕ, zero, suc, ◌+◌, ◌-◌, ◌*◌, ◌/◌, ◌%◌, ◌^◌, ◌≤◌, min, Bool, true, cond, ◌&&◌, List, [], ◌∷◌, ◌++◌, leb, ltb, length, None, Option, Some}

-- a byte from `0` to `9`
abbrev pub is_digit : ℕ → Bool
is_digit b = leb 48 b && leb b 57

unfoldable pub all_digits : List ℕ → Bool
all_digits [] = true
all_digits (b ∷ bs) = is_digit b && all_digits bs

-- the number that digits stand for, the highest first
unfoldable pub value : List ℕ → ℕ
value [] = 0
value (b ∷ bs) = (b - 48) * 10 ^ length bs + value bs

-- a number that fits 64 bits, or nothing
abbrev pub number_if : Bool → ℕ → Option ℕ
number_if right n = cond (right && ltb n (2 ^ 64)) (Some n) None

-- one digit or more and no other byte, and a number below 2^64
unfoldable pub decimal_of : List ℕ → Option ℕ
decimal_of text = number_if (ltb 0 (length text) && all_digits text) (value text)

-- a number with one digit more at its end
unfoldable pub with_digit : ℕ → ℕ → Option ℕ
with_digit n b = number_if (is_digit b) (n * 10 + (b - 48))

-- the same without a width: a number above the bound counts as the bound
unfoldable pub capped_decimal : ℕ → List ℕ → Option ℕ
capped_decimal most text = cond (ltb 0 (length text) && all_digits text) (Some (min (value text) most)) None

-- a number, if there is one, is at most so much
abbrev pub AtMost : ℕ → Option ℕ → Type 0
AtMost most (Some n) = n ≤ most
AtMost most None = Unit

-- the digits of a number, with no zero in front; of a longer one the last k
unfoldable pub digits_of : ℕ → ℕ → List ℕ
digits_of zero n = []
digits_of (suc k) n = cond (ltb n 10) ((48 + n) ∷ []) (digits_of k (n / 10) ++ ((48 + n % 10) ∷ []))

-- a number of four bytes has at most ten
abbrev pub spelled : ℕ → List ℕ
spelled n = digits_of 10 n
