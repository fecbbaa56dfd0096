-- `probe::probe_deadlines` meets its contract: two numbers are left, and a refusal leaves the buffer as it was.
use mathlib.Core.Path.{refl, sym, ◌∙◌}
use Rattle.probe.proofs.Left.{left-refused}
use Rattle.probe.proofs.probe_deadlines.Goals as goal

pub returns-in-Err : goal.returns-in-Err
returns-in-Err c = rw (sym c.test_deadlines.ensures ∙ c.in-Err.is, left-refused) (c.refuse.ensures.value, c.refuse.ensures.place_after, refl)
