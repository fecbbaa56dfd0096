-- `decimals::with_digit` meets its contract: where ten times the number does not fit, neither does the digit more.
use Prim.Native.Nat.{◌+◌, ◌-◌, ◌*◌, ◌^◌, ◌≤◌, ◌<◌}
use mathlib.Core.Bool.{and-false}
use mathlib.Core.Path.{sym, ◌∙◌}
use native.Mathlib.Omega.{arith}
use borrow.Author.Tests.{lt-leb, le-ltb}
use Rattle.decimals.specs.Decimals.{with_digit}
use Rattle.decimals.proofs.Decimals.{digit-added}
use Rattle.decimals.proofs.with_digit.Goals as goal

pub returns-in_err-checked_mul-in-48-to-57 : goal.returns-in_err-checked_mul-in-48-to-57
unfolding with_digit
returns-in_err-checked_mul-in-48-to-57 c =
    let large : 2 ^ 64 ≤ c.args.n * 10 + (c.args.byte - 48) = omega (arith, c.in_err-checked_mul-in-48-to-57.ensures) in
    c.from_residual.ensures ∙ sym (simp (le-ltb _ _ large, and-false))

pub returns-in_ok-checked_mul-in-48-to-57 : goal.returns-in_ok-checked_mul-in-48-to-57
returns-in_ok-checked_mul-in-48-to-57 c =
    digit-added _ c.args.n c.args.byte (omega arith) (omega arith) (rw (c.in_ok-checked_mul-in-48-to-57.ensures).1 at c.checked_add.ensures)

pub returns-in_default : goal.returns-in_default
unfolding with_digit
returns-in_default c = let small : c.args.byte < 48 = omega arith in simp (lt-leb _ _ small)

pub returns-in_default-2 : goal.returns-in_default-2
unfolding with_digit
returns-in_default-2 c = let large : 57 < c.args.byte = omega arith in simp (lt-leb _ _ large, and-false)
