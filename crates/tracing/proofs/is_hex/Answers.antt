-- `tracing::is_hex` meets its contract, by a test over all bits.
use mathlib.Core.Path.{sym}
use native.Mathlib.Omega.{arith}
use Rattle.tracing.proofs.Digits.{hex-low, hex-high, bit-right}
use Rattle.tracing.proofs.is_hex.Goals as goal

pub returns-in-48-to-102 : goal.returns-in-48-to-102
returns-in-48-to-102 c = bit-right c.args.byte (omega arith) (omega arith)

pub returns-in_default : goal.returns-in_default
returns-in_default c = sym (hex-low _ (omega arith))

pub returns-in_default-2 : goal.returns-in_default-2
returns-in_default-2 c = sym (hex-high _ (omega arith))
