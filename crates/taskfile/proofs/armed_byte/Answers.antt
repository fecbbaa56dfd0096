-- `taskfile::armed_byte` meets its contract: a bool as a byte is its bit.
use mathlib.Core.Path.{◌≡◌, refl, sym, ap, ◌∙◌}
use mathlib.Core.Bool.{Bool, true, false}
use native.Mathlib.Omega.{arith}
use lib.Dec.{eqb}
use lib.ListN.{get_or}
use mir.Val.{bool_byte}
use Rattle.model.specs.Sets.{bit}
use Rattle.block.proofs.Bytes.{field-byte}
use Rattle.taskfile.specs.File.{basic_of}
use Rattle.taskfile.proofs.armed_byte.Goals as goal

byte-is : (b : Bool) → bool_byte b ≡ bit b
byte-is true = refl
byte-is false = refl

pub returns : goal.returns
unfolding basic_of
returns c =
    let block = c.args.block.now in
    byte-is (eqb (get_or block 1 0) 1) ∙ ap (λ x. bit (eqb x 1)) (sym (field-byte block 1 (omega arith)))
