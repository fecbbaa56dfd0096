-- `writer::close_basic` meets its contract: the entry is of its kind, and a bool as a byte is its bit.
use mathlib.Core.Path.{◌≡◌, refl}
use mathlib.Core.Bool.{Bool, true, false}
use mir.Val.{bool_byte}
use Rattle.model.specs.Sets.{bit}
use Rattle.taskfile.specs.File.{basic_bytes}
use Rattle.writer.proofs.close_basic.Goals as goal

byte-is : (b : Bool) → bool_byte b ≡ bit b
byte-is true = refl
byte-is false = refl

pub returns : goal.returns
unfolding basic_bytes
returns c = rw (← byte-is) c.close_entry.ensures
