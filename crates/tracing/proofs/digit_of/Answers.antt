-- `tracing::digit_of` meets its contract, by the same test.
use Rattle.tracing.proofs.Digits.{digit-counted}
use Rattle.tracing.proofs.digit_of.Goals as goal

pub returns : goal.returns
returns c = digit-counted c.args.byte c.requires
