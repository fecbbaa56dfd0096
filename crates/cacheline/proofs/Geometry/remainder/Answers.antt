-- `cacheline::Geometry::remainder` meets its contract: by the mask, or the number less its quotient's multiple.
use Prim.Native.Nat.{ℕ, ◌%◌, ◌<◌}
use mathlib.Core.Path.{◌≡◌, sym, subst}
use native.Mathlib.Nat.{mod-lt}
use native.Mathlib.Omega.{arith}
use lib.Bits.{bit_and}
use Rattle.cacheline.proofs.Dividers.{multiple-least, rest-is}
use Rattle.cacheline.proofs.Geometry.remainder.Goals as goal
use Rattle.cacheline.proofs.Geometry.remainder.Goals.{After-struct_known-then-self-ne0-1}

-- the remainder that a mask leaves is below the count
masked : (c : goal.After-struct_known-then-self-ne0-1) → (bit_and c.args.number c.args.self.mask ≡ c.args.number % c.args.self.line_count) × (bit_and c.args.number c.args.self.mask < 512)
masked c =
    let is = c.requires.masks c.if-self-ne0.true c.args.number in
    (is, subst (λ (n : ℕ). n < 512) (sym is) (omega (arith, mod-lt c.args.number c.requires.some, c.requires.most)))

pub overflow_cast-result : goal.overflow_cast-result
overflow_cast-result c = omega (arith, masked (goal.at.overflow_cast-result c).After-struct_known-then-self-ne0-1)

pub returns-then-self-ne0 : goal.returns-then-self-ne0
returns-then-self-ne0 c = masked (goal.at.returns-then-self-ne0 c).After-struct_known-then-self-ne0-1

pub overflow_mul-quotient : goal.overflow_mul-quotient
overflow_mul-quotient c =
    omega (arith, c.requires.divides.fits c.args.number c.ranges.number.fits)

pub overflow_add-quotient : goal.overflow_add-quotient
overflow_add-quotient c =
    omega (arith, c.requires.divides.fits c.args.number c.ranges.number.fits)

pub overflow_mul-result : goal.overflow_mul-result
overflow_mul-result c =
    omega (arith, multiple-least _ _ c.requires.divides c.args.number c.ranges.number.fits)

pub overflow_sub-result : goal.overflow_sub-result
overflow_sub-result c =
    omega (arith, multiple-least _ _ c.requires.divides c.args.number c.ranges.number.fits)

pub returns : goal.returns
returns c =
    let rest = rest-is _ _ c.requires.divides c.args.number c.ranges.number.fits in
    (rest, subst (λ (n : ℕ). n < 512) (sym rest) (omega (arith, mod-lt c.args.number c.requires.some, c.requires.most)))
