-- `reuse::first_reader` meets its contract, by whether one is noted.
use mathlib.Core.Path.{refl}
use borrow.Author.Tests.{ne_eqb}
use Rattle.reuse.proofs.first_reader.Goals as goal

pub returns-then-noted-eq0 : goal.returns-then-noted-eq0
returns-then-noted-eq0 c = rw c.if-noted-eq0.true refl

pub returns-else-noted-eq0 : goal.returns-else-noted-eq0
returns-else-noted-eq0 c = rw (ne_eqb c.args.noted 0 c.if-noted-eq0.false) refl
