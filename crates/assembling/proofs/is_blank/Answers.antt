-- A blank is a space, a tab or a carriage return, as the definition says.
use borrow.Author.Rules.{rules}
use Rattle.assembling.specs.Words.{is_blank}
use Rattle.assembling.proofs.is_blank.Goals as goal

pub returns : goal.returns
unfolding is_blank
returns c = search rules
