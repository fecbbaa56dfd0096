-- `tracing::Scan::add_digit` meets its contract: a digit is right in its column, and counts below 16.
use native.Mathlib.Omega.{arith}
use Rattle.tracing.proofs.Digits.{digit-small}
use Rattle.tracing.proofs.Going.{digit-added}
use Rattle.tracing.proofs.Scan.add_digit.Goals as goal

pub overflow_add-self-2 : goal.overflow_add-self-2
overflow_add-self-2 c = omega (arith, digit-small c.args.digit c.requires.2, c.digit_of.ensures)

pub returns : goal.returns
returns c = rw c.digit_of.ensures (digit-added c.args.self.now c.args.digit c.requires.0 c.requires.1 c.requires.2)
