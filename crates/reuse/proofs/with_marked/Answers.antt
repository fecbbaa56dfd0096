-- `reuse::with_marked` meets its contract, by the mark.
use mathlib.Core.Path.{sym, ◌∙◌}
use mathlib.Core.Bool.{and-true, and-false, or-false}
use borrow.Author.Tests.{lt-ltb}
use Rattle.reuse.proofs.with_marked.Goals as goal

pub returns-then-marked : goal.returns-then-marked
returns-then-marked c = λ d. c.with.ensures d ∙ rw (lt-ltb _ _ c.requires, c.if-marked.true, and-true)

pub returns-else-marked : goal.returns-else-marked
returns-else-marked c = λ d. rw (c.if-marked.false, and-false) (sym (or-false _))
