-- `LineSet::with` meets its contract. The loop's invariant: the words below w are joined with the line's bit, and the others are those of self.
use native.Mathlib.Omega.{arith}
use borrow.Author.Rules.{rules}
use lib.Bits.{bit_or, mask_lt}
use Rattle.lineset.proofs.Laws.{joined-none, joined-more, in-with}
use Rattle.lineset.proofs.LineSet.with.Goals as goal

pub overflow_shl-bit : goal.overflow_shl-bit
overflow_shl-bit c = mask_lt c.args.line 6

pub loop-w-init : goal.loop-w-init
loop-w-init c = joined-none bit_or _ _ (search rules)

pub loop-w-preserved : goal.loop-w-preserved
loop-w-preserved c = rw c.bit_in.ensures (joined-more bit_or _ _ _ _ (omega arith) c.loop-w.invariant)

pub returns : goal.returns
returns c = in-with _ _ _ _ (search rules) c.loop-w-test.false c.loop-w.invariant
