-- `decimals::capped_decimal` meets its contract. The loop's invariant: the bytes say what the number so far and the bytes left say, up to the bound.
use Prim.Native.Nat.{ℕ, ◌+◌, ◌≤◌}
use mathlib.Core.Path.{sym, ap, ◌∙◌}
use native.Mathlib.Omega.{arith}
use borrow.Author.Tests.{le-ltb, eqb-true, eqb-false}
use lib.ListN.{length, drop, drop_of_length-le}
use Rattle.decimals.specs.Decimals.{capped_decimal}
use Rattle.decimals.proofs.Decimals.{capped, capped-zero, capped-none, capped-wrong, capped-next}
use Rattle.decimals.proofs.capped_decimal.Goals as goal

pub returns-then-is_empty : goal.returns-then-is_empty
unfolding capped_decimal
returns-then-is_empty c = let none : length c.args.text.now ≤ 0 = omega (arith, eqb-true _ _ (sym c.if-is_empty.ensures)) in simp (le-ltb _ _ none)

pub loop-byte-init : goal.loop-byte-init
loop-byte-init c = (omega arith, capped-zero _ _ (omega (arith, eqb-false _ _ (sym c.if-is_empty.ensures))))

pub returns-in_err-with_digit : goal.returns-in_err-with_digit
returns-in_err-with_digit c =
    let text = c.args.text.now in
    let none = sym c.with_digit.ensures ∙ c.in_err-with_digit.was in
    c.from_residual.ensures ∙ sym (c.loop-byte.invariant.1 ∙ capped-wrong _ text c.loop-byte.byte-index c.loop-byte.n (omega arith) none c.loop-byte-test.true)

pub loop-byte-preserved : goal.loop-byte-preserved
loop-byte-preserved c =
    let text = c.args.text.now in
    let most = c.args.most in
    let more = sym c.with_digit.ensures ∙ c.in_ok-with_digit.was in
    let cut = ap (λ (n : ℕ). capped most n (drop (c.loop-byte.byte-index + 1) text)) (sym c.min-n.ensures) in
    (omega (arith, c.min-n.ensures), c.loop-byte.invariant.1 ∙ capped-next most text c.loop-byte.byte-index c.loop-byte.n _ more c.loop-byte-test.true ∙ cut)

pub returns : goal.returns
returns c =
    let text = c.args.text.now in
    sym (c.loop-byte.invariant.1 ∙ rw (drop_of_length-le text c.loop-byte-test.false) (capped-none _ _ c.loop-byte.invariant.0))
