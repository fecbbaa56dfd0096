-- `showing::put_byte` meets its contract: a byte past the output changes nothing.
use borrow.Author.Rules.{rules}
use mathlib.Core.Path.{sym, ◌∙◌}
use lib.Seq.{set_out}
use Rattle.showing.specs.Output.{laid}
use Rattle.showing.proofs.put_byte.Goals as goal
use Rattle.showing.proofs.put_byte.Goals.{then-at-out, else-at-out}

pub returns : goal.returns
unfolding laid
returns c = record { bytes = elim c.if-at-out.branch [ then-at-out w ↦ w.out-is | else-at-out w ↦ w.out-is ∙ sym (set_out _ _ _ w.if-at-out.false) ]; place = search rules }
