-- `showing::check` meets its contract: the file's refusal, and then the output's.
use mathlib.Core.Path.{refl, sym, ◌∙◌}
use Rattle.showing.specs.Calls.{room_row}
use Rattle.showing.proofs.check.Goals as goal

pub returns-then-has_room : goal.returns-then-has_room
unfolding room_row
returns-then-has_room c = rw (sym c.check.ensures ∙ c.in_ok-check.was, ← c.has_room.ensures, c.if-has_room.true) refl

pub returns-else-has_room : goal.returns-else-has_room
unfolding room_row
returns-else-has_room c = rw (sym c.check.ensures ∙ c.in_ok-check.was, ← c.has_room.ensures, c.if-has_room.false) refl
