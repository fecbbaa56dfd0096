-- A quotient by s from a product with f, a number near w / s, and a quotient by w: with f * s a little above w as it stands, and with f * s a
-- little below w where f is added. Assumes nothing.
use Prim.Native.Nat.{ℕ, ◌+◌, ◌-◌, ◌*◌, ◌/◌, ◌%◌, ◌^◌, ◌<◌, ◌≤◌}
use mathlib.Core.Path.{◌≡◌}
use native.Mathlib.Nat.{add-zero, div-mul-le_self, div-add-mod', lt-div-mul-add, mul-le-mul, mul-le-mul_right, le_of_mul-le-mul_right, lt_of_mul-lt-mul_right, div-eq_of_lt-le}
use native.Mathlib.Omega.{arith}
use Rattle.cacheline.specs.Geometries.{Divides, PowerFor}
use Rattle.cacheline.specs.declared.Divider.{Divider}
use Rattle.cacheline.specs.declared.Power.{Power}

module _ (m s w f : ℕ) (some : 1 ≤ s) (small : m < 2 ^ 32) where
  -- the least and the most of a quotient by w that is m / s
  quotient_is : (x : ℕ) → m * w ≤ x * s → x * s < (m + 1) * w → x / w ≡ m / s
  quotient_is x low high =
      let near : m < m / s * s + s = lt-div-mul-add some in
      let least : m / s * s * w ≤ m * w = mul-le-mul_right w (div-mul-le_self m s) in
      let most : (m + 1) * w ≤ (m / s * s + s) * w = mul-le-mul_right w (omega (arith, near)) in
      div-eq_of_lt-le w (le_of_mul-le-mul_right {k = s} (omega arith) some) (lt_of_mul-lt-mul_right s (omega arith))

  -- f * s is e above w
  pub quotient-above : (e : ℕ) → f * s ≡ w + e → e * 2 ^ 32 < w → m * f / w ≡ m / s
  quotient-above e above near =
      let whole : m * (f * s) ≡ m * (w + e) = rw above in
      let more : m * e ≤ 2 ^ 32 * e = mul-le-mul_right e (omega arith) in
      quotient_is (m * f) (omega arith) (omega arith)

  -- f * s is e below w
  pub quotient-below : (e : ℕ) → f * s + e ≡ w → 1 ≤ e → e * 2 ^ 32 ≤ w → (m * f + f) / w ≡ m / s
  quotient-below e below some_below near =
      let whole : (m + 1) * (f * s + e) ≡ (m + 1) * w = rw below in
      let more : (m + 1) * e ≤ 2 ^ 32 * e = mul-le-mul_right e (omega arith) in
      quotient_is (m * f + f) (omega arith) (omega arith)

-- the dividers of a power by s: where it is a multiple, and with the factor below or above it
module _ (s : ℕ) (p : Power) (some : 1 ≤ s) (of : PowerFor s p) where
  pub factor-least : p.value / s * s ≤ p.value
  factor-least = div-mul-le_self p.value s

  pub rest-less : p.value - p.value / s * s < s
  rest-less =
      let beyond : p.value < p.value / s * s + s = lt-div-mul-add some in
      omega (arith, factor-least)

  factor-most : p.value / s ≤ 2 ^ 32
  factor-most = le_of_mul-le-mul_right {k = s} (omega (arith, factor-least, of.most)) some

  pub factor-less : 1 ≤ p.value - p.value / s * s → p.value / s < 2 ^ 32
  factor-less less = lt_of_mul-lt-mul_right s (omega (arith, of.most))

  pub divides-whole : p.value - p.value / s * s ≡ 0 → Divides s record { factor = p.value / s; addend = 0; shift = p.shift }
  divides-whole whole =
      record {
        exact =
            λ m small.
            rw (← of.value)
            (simp add-zero
            (quotient-above m s p.value (p.value / s) some small 0 (omega (arith, factor-least)) (omega (arith, of.greatest, some))));
        fits =
            λ m small.
            let high : m * (p.value / s) ≤ (2 ^ 32 - 1) * 2 ^ 32 = mul-le-mul {n₂ = 2 ^ 32 - 1} {m₂ = 2 ^ 32} (omega arith) factor-most in
            omega arith;
        narrow = of.narrow;
      }

  pub divides-below : 1 ≤ p.value - p.value / s * s → (p.value - p.value / s * s) * 2 ^ 32 ≤ p.value
      → Divides s record { factor = p.value / s; addend = p.value / s; shift = p.shift }
  divides-below rest near =
      record {
        exact =
            λ m small.
            rw (← of.value)
            (quotient-below m s p.value (p.value / s) some small (p.value - p.value / s * s) (omega (arith, factor-least)) rest near);
        fits =
            λ m small.
            let less = factor-less rest in
            let high : (m + 1) * (p.value / s) ≤ 2 ^ 32 * (2 ^ 32 - 1) = mul-le-mul {n₂ = 2 ^ 32} {m₂ = 2 ^ 32 - 1} (omega arith) (omega arith) in
            omega arith;
        narrow = of.narrow;
      }

  pub divides-above : 1 ≤ p.value - p.value / s * s → p.value < (p.value - p.value / s * s) * 2 ^ 32
      → Divides s record { factor = p.value / s + 1; addend = 0; shift = p.shift }
  divides-above rest near =
      let beyond : p.value < p.value / s * s + s = lt-div-mul-add some in
      record {
        exact =
            λ m small.
            rw (← of.value)
            (simp add-zero
            (quotient-above m s p.value (p.value / s + 1) some small (p.value / s * s + s - p.value) (omega (arith, beyond)) (omega (arith, of.greatest, factor-least, beyond))));
        fits =
            λ m small.
            let less = factor-less rest in
            let high : m * (p.value / s + 1) ≤ (2 ^ 32 - 1) * 2 ^ 32 = mul-le-mul {n₂ = 2 ^ 32 - 1} {m₂ = 2 ^ 32} (omega arith) (omega arith) in
            omega arith;
        narrow = of.narrow;
      }

-- what a divider leaves
module _ (s : ℕ) (d : Divider) (of : Divides s d) (m : ℕ) (small : m < 2 ^ 32) where
  pub multiple-least : (m * d.factor + d.addend) / 2 ^ d.shift * s ≤ m
  multiple-least = rw (of.exact m small) (div-mul-le_self m s)

  pub rest-is : m - (m * d.factor + d.addend) / 2 ^ d.shift * s ≡ m % s
  rest-is = rw (of.exact m small) (omega (arith, div-add-mod' m s))
