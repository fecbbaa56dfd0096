-- `assembling::read_lines` meets its contract.
use Prim.Native.Nat.{ℕ, ◌<◌}
use mathlib.Core.Path.{◌≡◌, refl, sym, ◌∙◌}
use mathlib.Core.Bool.{false}
use native.Mathlib.Omega.{arith}
use borrow.Author.Tests.{eqb-true}
use lib.Dec.{eqb}
use Rattle.std.proofs.lemmas.Bool.Decides.{nat_tests}
use Rattle.std.proofs.Common.{None, Some}
use Rattle.std.proofs.lemmas.Result.{err_from_is_err_and}
use Rattle.model.specs.declared.Refusal.TheVariants.{WrongText}
use Rattle.assembling.specs.Words.{is_line_byte}
use Rattle.assembling.proofs.Spans.{nothing, run_of}
use Rattle.assembling.proofs.Lines.{read_none, read-wrong, read_more, read_all, read_whole, read_short}
use Rattle.assembling.proofs.read_lines.Goals as goal

some : (n : ℕ) → eqb n 0 ≡ false → 0 < n
some n e = grind (arith, nat_tests)

pub loop-rest-init : goal.loop-rest-init
loop-rest-init c = read_none _ _ _ refl c.requires

pub returns-in_err-known-clause-refusal : goal.returns-in_err-known-clause-refusal
returns-in_err-known-clause-refusal c =
    let loop = c.loop-rest in
    let none : c.take_line.result ≡ None = grind arith in
    let is : c.in_err-known.field-0.0 ≡ WrongText loop.line = grind arith in
    let inside = some _ (sym c.is_empty.ensures ∙ c.loop-rest-test.true) in
    let taken = c.take_line.ensures.takes_line _ loop.invariant.knows loop.invariant.stored in
    let left = err_from_is_err_and c.from_residual.result c.from_residual.ensures.1 in
    rw (left.1, left.2, is, read-wrong loop.invariant inside (run_of is_line_byte _ _ _ c.split_run.ensures) _ _ taken (rw none refl)) refl

pub loop-rest-preserved-in-Some : goal.loop-rest-preserved-in-Some
loop-rest-preserved-in-Some c =
    let loop = c.loop-rest in
    let is : c.take_line.result ≡ Some c.in_ok-known.known = grind arith in
    let inside = some _ (sym c.is_empty.ensures ∙ c.loop-rest-test.true) in
    let taken = c.take_line.ensures.takes_line _ loop.invariant.knows loop.invariant.stored in
    read_more loop.invariant inside (run_of is_line_byte _ _ _ c.split_run.ensures) _ _ taken _ _ is (rw is at c.take_line.ensures.blocks_bound) (omega arith)
    (rw c.in-Some.ensures.cases.0 refl)

pub loop-rest-preserved : goal.loop-rest-preserved
loop-rest-preserved c =
    let loop = c.loop-rest in
    let is : c.take_line.result ≡ Some c.in_ok-known.known = grind arith in
    let inside = some _ (sym c.is_empty.ensures ∙ c.loop-rest-test.true) in
    let taken = c.take_line.ensures.takes_line _ loop.invariant.knows loop.invariant.stored in
    read_more loop.invariant inside (run_of is_line_byte _ _ _ c.split_run.ensures) _ _ taken _ _ is (rw is at c.take_line.ensures.blocks_bound) (omega arith)
    (rw (nothing _ c.in-None.ensures.cases) refl)

pub returns-then-is_whole-clause-refusal : goal.returns-then-is_whole-clause-refusal
returns-then-is_whole-clause-refusal c =
    let loop = c.loop-rest in
    let past = eqb-true _ 0 (sym c.is_empty.ensures ∙ c.loop-rest-test.false) in
    rw (read_whole loop.invariant past (sym (c.is_whole.ensures _ loop.invariant.knows) ∙ c.if-is_whole.true)) refl

pub returns-then-is_whole-clause-knows : goal.returns-then-is_whole-clause-knows
returns-then-is_whole-clause-knows c =
    let loop = c.loop-rest in
    let past = eqb-true _ 0 (sym c.is_empty.ensures ∙ c.loop-rest-test.false) in
    let all = read_all loop.invariant past in
    (rw all loop.invariant.knows, rw all loop.invariant.stored)

pub returns-else-is_whole-clause-refusal : goal.returns-else-is_whole-clause-refusal
returns-else-is_whole-clause-refusal c =
    let loop = c.loop-rest in
    let past = eqb-true _ 0 (sym c.is_empty.ensures ∙ c.loop-rest-test.false) in
    rw (read_short loop.invariant past (sym (c.is_whole.ensures _ loop.invariant.knows) ∙ c.if-is_whole.false)) refl
