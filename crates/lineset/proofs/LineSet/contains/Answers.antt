-- `LineSet::contains` meets its contract. `line & 63` is `line % 64`, and the lowest digit of the shifted word is the line's.
use mathlib.Core.Path.{sym}
use borrow.Author.Rules.{rules}
use lib.Bits.{and_mask, mask_lt}
use Rattle.model.specs.Sets.{in_words}
use Rattle.model.proofs.Sets.{in-eight-above}
use Rattle.lineset.proofs.LineSet.contains.Goals as goal

pub overflow_shr-result : goal.overflow_shr-result
overflow_shr-result c = mask_lt c.args.line 6

pub returns-then-line-lt512 : goal.returns-then-line-lt512
unfolding in_words
returns-then-line-lt512 c = rw (and_mask c.args.line 6, and_mask _ 1)

pub returns-else-line-lt512 : goal.returns-else-line-lt512
returns-else-line-lt512 c = sym (in-eight-above c.args.self.words (search rules) c.args.line c.if-line-lt512.false)
