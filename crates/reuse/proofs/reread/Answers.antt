-- `reuse::reread` meets its contract, by whether the line is of H and holds the number.
use Prim.Native.Nat.{◌≤◌}
use mathlib.Core.Path.{◌≡◌, refl, ◌∙◌}
use mathlib.Core.Bool.{Bool, true, false, ◌&&◌}
use native.Mathlib.Omega.{arith}
use mir.Val.{bool_byte}
use Rattle.model.specs.Sets.{bit}
use Rattle.reuse.proofs.SameLine.{same-line}
use Rattle.reuse.proofs.reread.Goals as goal

-- a bool as a byte
byte-is : (b : Bool) → (bool_byte b ≡ bit b) × (bool_byte b ≤ 1)
byte-is true = (refl, omega arith)
byte-is false = (refl, omega arith)

pub returns : goal.returns
returns c =
    let same = c.eq.ensures ∙ same-line c.args.line c.args.number in
    rw (← same) (byte-is (c.args.evicted && c.eq.result))
