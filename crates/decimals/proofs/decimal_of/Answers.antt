-- `decimals::decimal_of` meets its contract. The loop's invariant: the bytes say what the number so far and the bytes left say.
use Prim.Native.Nat.{◌≤◌}
use mathlib.Core.Path.{sym, ◌∙◌}
use native.Mathlib.Omega.{arith}
use borrow.Author.Rules.{rules}
use borrow.Author.Tests.{le-ltb}
use lib.ListN.{length, drop_of_length-le}
use Rattle.decimals.specs.Decimals.{decimal_of}
use Rattle.decimals.proofs.Decimals.{from_zero, none_left, next-byte}
use Rattle.decimals.proofs.decimal_of.Goals as goal

pub returns-then-text-eq0 : goal.returns-then-text-eq0
unfolding decimal_of
returns-then-text-eq0 c = let none : length c.args.text.now ≤ 0 = omega arith in simp (le-ltb _ _ none)

pub loop-byte-init : goal.loop-byte-init
loop-byte-init c = (omega arith, from_zero _ (omega arith))

pub returns-in_err-n : goal.returns-in_err-n
returns-in_err-n c =
    let text = c.args.text.now in
    let none = sym c.with_digit.ensures ∙ c.in_err-n.was in
    c.from_residual.ensures ∙ sym (c.loop-byte.invariant.1 ∙ next-byte text c.loop-byte.byte-index c.loop-byte.n none c.loop-byte-test.true)

pub loop-byte-preserved : goal.loop-byte-preserved
loop-byte-preserved c =
    let text = c.args.text.now in
    let more = sym c.with_digit.ensures ∙ c.in_ok-n.was in
    (search rules, c.loop-byte.invariant.1 ∙ next-byte text c.loop-byte.byte-index c.loop-byte.n more c.loop-byte-test.true)

pub returns : goal.returns
returns c =
    let text = c.args.text.now in
    sym (c.loop-byte.invariant.1 ∙ rw (drop_of_length-le text c.loop-byte-test.false) (none_left _ c.loop-byte.invariant.0))
