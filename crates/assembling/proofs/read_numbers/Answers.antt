-- `assembling::read_numbers` meets its contract. The loop's invariant: the words so far are numbers, whose values the array holds, and the others are left.
use mathlib.Core.Path.{sym, ◌∙◌}
use native.Mathlib.Omega.{arith}
use Rattle.assembling.proofs.Reading.{seen_none, seen_more, seen-wrong}
use Rattle.assembling.proofs.read_numbers.Goals as goal

pub loop-word-init : goal.loop-word-init
loop-word-init c = seen_none _ _ c.requires

pub returns-in_err-n : goal.returns-in_err-n
returns-in_err-n c =
    let first = c.in-Some.ensures in
    rw c.from_residual.ensures (seen-wrong c.in-Some.word.now first.some (rw first.words at c.loop-word.invariant) (sym c.number_of.ensures ∙ c.in_err-n.was))

pub loop-word-preserved : goal.loop-word-preserved
loop-word-preserved c =
    let first = c.in-Some.ensures in
    seen_more c.in-Some.word.now _ (rw first.words at c.loop-word.invariant) (sym c.number_of.ensures ∙ c.in_ok-n.was) (omega (arith, c.loop-word.invariant.few))
