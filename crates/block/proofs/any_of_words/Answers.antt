-- `block::any_of_words` meets its contract. The loop's invariant: the or of the first `i` words is zero just where their bytes are zeros.
use Prim.Native.Nat.{ℕ, zero, suc, ◌+◌, ◌*◌}
use mathlib.Core.Path.{◌≡◌, sym}
use mathlib.Core.Bool.{◌&&◌}
use native.Mathlib.Omega.{arith}
use lib.Bits.{bit_or, or_zero_l, or_add_and, and_le_r}
use lib.Dec.{eqb}
use borrow.Author.Tests.{ne_eqb}
use Rattle.block.proofs.Bytes.{zeros-number, zeros-none, zeros-split}
use Rattle.block.proofs.any_of_words.Goals as goal

-- an or is zero just where both sides are
or-none : (a b : ℕ) → eqb (bit_or a b) 0 ≡ (eqb a 0 && eqb b 0)
or-none zero b = rw (or_zero_l b)
or-none (suc a) b =
    rw (ne_eqb (suc a) 0 (λ e. omega arith))
    (ne_eqb (bit_or (suc a) b) 0 (λ e. omega (arith, or_add_and (suc a) b, and_le_r (suc a) b)))

pub loop-i-init : goal.loop-i-init
loop-i-init c =
    let args = c.args in
    (omega arith, sym (zeros-none args.bytes.now args.start (args.start + 0) (omega arith)))

pub loop-i-preserved : goal.loop-i-preserved
loop-i-preserved c =
    let loop = c.loop-i in
    let args = c.args in
    let bs = c.args.bytes.now in
    let at : ℕ = args.start + 8 * loop.i in
    let next : args.start + 8 * (loop.i + 1) ≡ at + 8 = omega arith in (
      omega arith,
      rw (
        or-none,
        loop.invariant.1,
        c.u64_at-any.ensures,
        ← zeros-number 8 bs at (λ i _. (c.type_inv.bytes i).fits) (omega arith),
        next,
        ← zeros-split bs args.start at (at + 8) (omega arith) (omega arith) (omega arith),
      ),
    )

pub returns : goal.returns
returns c =
    let all : c.loop-i.i ≡ c.args.count = omega arith in
    rw all at c.loop-i.invariant.1
