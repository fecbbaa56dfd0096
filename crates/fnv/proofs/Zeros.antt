-- Zeros: each is a product with 16777619, and bytes whose number is 0 are all 0. Assumes nothing.
use Prim.Native.Nat.{ℕ, zero, suc, ◌+◌, ◌-◌, ◌*◌, ◌/◌, ◌%◌, ◌^◌, ◌<◌, ◌≤◌}
use mathlib.Core.Path.{◌≡◌, refl, sym, subst, ap, ap₂, ◌∙◌}
use mathlib.Core.Bool.{Bool, true, false}
use mathlib.Core.List.{List, [], ◌∷◌}
use native.Mathlib.Nat.{add-zero, mul-one, mul_assoc, mul_comm, div-add-mod', mul-add-mod_self_right, mod-eq_of_lt, pow-suc}
use native.Mathlib.Omega.{arith}
use lib.Bits.{bit_or, xor_zero_r, or_add_and, and_le_l, and_le_r}
use lib.Dec.{ltb}
use lib.ListN.{length, get_or, take, drop, replicate}
use lib.Seq.{drop-cons}
use borrow.Author.Tests.{ltb-true, ltb-false}
use Rattle.std.specs.Int.{w64, from_le_bytes}
use Rattle.fnv.specs.Fnv.{step, hash_from}
use Rattle.fnv.specs.Steps.{ZeroIf}

mod-product : (x p m : ℕ) → x % m * p % m ≡ x * p % m
mod-product x p m =
    let whole : x / m * p * m + x % m * p ≡ x * p = (let all = div-add-mod' x m in sym (ap (λ (n : ℕ). n * p) (sym all) ∙ omega arith)) in
    sym (ap (λ (n : ℕ). n % m) (sym whole) ∙ mul-add-mod_self_right (x / m * p) m (x % m * p))

step-zero : (s : ℕ) → step (s % 2 ^ 32) 0 ≡ s * 16777619 % 2 ^ 32
step-zero s = rw (xor_zero_r (s % 2 ^ 32)) (mod-product s 16777619 (2 ^ 32))

zeros-product : (n s : ℕ) → hash_from (s % 2 ^ 32) (replicate n 0) ≡ s * 16777619 ^ n % 2 ^ 32
unfolding hash_from
zeros-product zero s = ap (λ (n : ℕ). n % 2 ^ 32) (sym (mul-one s))
zeros-product (suc n) s =
    ap (λ (state : ℕ). hash_from state (replicate n 0)) (step-zero s) ∙ zeros-product n (s * 16777619) ∙
    ap (λ (x : ℕ). x % 2 ^ 32) (mul_assoc s 16777619 (16777619 ^ n) ∙ ap (λ (x : ℕ). s * x) (mul_comm 16777619 (16777619 ^ n) ∙ sym (pow-suc 16777619 n)))

-- so n zeros are one, by the low 32 bits of a power
pub zeros-power : (n power s : ℕ) → power ≡ 16777619 ^ n % 2 ^ 32 → s < 2 ^ 32 → s * power % 2 ^ 32 ≡ hash_from s (replicate n 0)
zeros-power n power s is small =
    let whole : hash_from (s % 2 ^ 32) (replicate n 0) ≡ s * 16777619 ^ n % 2 ^ 32 = zeros-product n s in
    let low : 16777619 ^ n % 2 ^ 32 * s % 2 ^ 32 ≡ 16777619 ^ n * s % 2 ^ 32 = mod-product (16777619 ^ n) s (2 ^ 32) in
    rw (is, mul_comm s (16777619 ^ n % 2 ^ 32)) (low ∙ ap (λ (x : ℕ). x % 2 ^ 32) (mul_comm (16777619 ^ n) s) ∙ sym (rw (mod-eq_of_lt small) at whole))

-- bytes whose number is 0

pub word-zero : (bytes : List ℕ) (at number : ℕ) → number ≡ from_le_bytes w64 (get_or bytes at 0 ∷ get_or bytes (at + 1) 0 ∷ get_or bytes (at + 2) 0 ∷ get_or bytes (at + 3) 0 ∷ get_or bytes (at + 4) 0 ∷ get_or bytes (at + 5) 0 ∷ get_or bytes (at + 6) 0 ∷ get_or bytes (at + 7) 0 ∷ [])
    → ZeroIf 8 bytes at number
word-zero bytes at number is none zero h = rw add-zero (omega arith)
word-zero bytes at number is none (suc zero) h = omega arith
word-zero bytes at number is none (suc (suc zero)) h = omega arith
word-zero bytes at number is none (suc (suc (suc zero))) h = omega arith
word-zero bytes at number is none (suc (suc (suc (suc zero)))) h = omega arith
word-zero bytes at number is none (suc (suc (suc (suc (suc zero))))) h = omega arith
word-zero bytes at number is none (suc (suc (suc (suc (suc (suc zero)))))) h = omega arith
word-zero bytes at number is none (suc (suc (suc (suc (suc (suc (suc zero))))))) h = omega arith
word-zero bytes at number is none (suc (suc (suc (suc (suc (suc (suc (suc j)))))))) h = absurd (omega arith)

pub twice-zero : (n : ℕ) (bytes : List ℕ) (at low high number : ℕ) → ZeroIf n bytes at low → ZeroIf n bytes (at + n) high
    → (number ≡ 0 → low ≡ 0) → (number ≡ 0 → high ≡ 0) → ZeroIf (n + n) bytes at number
twice-zero n bytes at low high number lows highs no-low no-high none j h = go (ltb j n) refl
  where
    go : (b : Bool) → ltb j n ≡ b → get_or bytes (at + j) 0 ≡ 0
    go true e = lows (no-low none) j (ltb-true j n e)
    go false e =
        let later = ltb-false j n e in
        subst (λ (i : ℕ). get_or bytes i 0 ≡ 0) (omega arith) (highs (no-high none) (j - n) (omega arith))

pub or-zero : (a b : ℕ) → bit_or a b ≡ 0 → (a ≡ 0) × (b ≡ 0)
or-zero a b none = omega (arith, or_add_and a b, and_le_l a b, and_le_r a b)

pub or-four-zero : (a b c d : ℕ) → bit_or (bit_or (bit_or a b) c) d ≡ 0 → (a ≡ 0) × (b ≡ 0) × (c ≡ 0) × (d ≡ 0)
or-four-zero a b c d none =
    let three = or-zero (bit_or (bit_or a b) c) d none in
    let two = or-zero (bit_or a b) c three.0 in
    let one = or-zero a b two.0 in
    (one.0, one.1, two.1, three.1)

-- all of n bytes from a place on
pub all-zero : (n : ℕ) (bytes : List ℕ) (at : ℕ) → at + n ≤ length bytes → ((j : ℕ) → j < n → get_or bytes (at + j) 0 ≡ 0) → take n (drop at bytes) ≡ replicate n 0
all-zero zero bytes at long zeros = refl
all-zero (suc n) bytes at long zeros =
    ap (take (suc n)) (drop-cons bytes at 0 (omega arith)) ∙
    ap₂ (λ (x : ℕ) (xs : List ℕ). x ∷ xs) (subst (λ (i : ℕ). get_or bytes i 0 ≡ 0) (add-zero at) (zeros 0 (omega arith)))
    (all-zero n bytes (suc at) (omega arith) (λ j h. subst (λ (i : ℕ). get_or bytes i 0 ≡ 0) (omega arith) (zeros (suc j) (omega arith))))
