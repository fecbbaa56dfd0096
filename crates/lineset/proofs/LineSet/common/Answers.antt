-- `LineSet::common` meets its contract. The loop's invariant: the words below w are joined, and the others are those of self. The measure is the words left.
use mathlib.Core.Path.{refl}
use native.Mathlib.Omega.{arith}
use borrow.Author.Rules.{rules}
use lib.Bits.{bit_and}
use mathlib.Core.Bool.{◌&&◌}
use Rattle.model.proofs.Digits.{digit_and}
use Rattle.lineset.proofs.Laws.{joined-none, joined-more, in_both}
use Rattle.lineset.proofs.LineSet.common.Goals as goal

pub loop-w-init : goal.loop-w-init
loop-w-init c = joined-none bit_and _ _ (search rules)

pub loop-w-preserved : goal.loop-w-preserved
loop-w-preserved c = joined-more bit_and _ _ _ _ (omega arith) c.loop-w.invariant

pub returns : goal.returns
returns c = in_both bit_and _ _ ◌&&◌ refl digit_and (search rules) (search rules) _ _ c.loop-w-test.false c.loop-w.invariant
