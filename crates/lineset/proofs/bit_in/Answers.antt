-- `lineset::bit_in` meets its contract, by the test.
use mathlib.Core.Path.{refl}
use borrow.Author.Tests.{eq-eqb, ne_eqb}
use Rattle.lineset.proofs.bit_in.Goals as goal

pub returns-then-w-word : goal.returns-then-w-word
returns-then-w-word c = rw (eq-eqb _ _ c.if-w-word.true) refl

pub returns-else-w-word : goal.returns-else-w-word
returns-else-w-word c = rw (ne_eqb _ _ c.if-w-word.false) refl
