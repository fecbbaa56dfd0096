-- `probe::leave` meets its contract: the buffer's length decides, and where it is right the numbers are stored.
use mathlib.Core.Path.{sym, ◌∙◌}
use Rattle.model.proofs.Verdicts.{output-size}
use Rattle.probe.specs.Calls.{left}
use Rattle.probe.proofs.Left.{probed-accept}
use borrow.Author.Rules.{rules}
use Rattle.probe.proofs.leave.Goals as goal

pub put_numbers-requires : goal.put_numbers-requires
put_numbers-requires c = (search rules, output-size _ _ (sym c.check_output.ensures ∙ c.in-Ok.is))

pub returns-in-Ok-clause-value : goal.returns-in-Ok-clause-value
returns-in-Ok-clause-value c = rw (probed-accept, sym c.check_output.ensures ∙ c.in-Ok.is)

pub returns-in-Ok-clause-place_after : goal.returns-in-Ok-clause-place_after
returns-in-Ok-clause-place_after c = rw (probed-accept, sym c.check_output.ensures ∙ c.in-Ok.is)

pub returns-in-Ok-clause-out_after : goal.returns-in-Ok-clause-out_after
unfolding left
returns-in-Ok-clause-out_after c = rw (probed-accept, sym c.check_output.ensures ∙ c.in-Ok.is) c.put_numbers.ensures

pub returns-in-Err-clause-value : goal.returns-in-Err-clause-value
returns-in-Err-clause-value c = rw (probed-accept, sym c.check_output.ensures ∙ c.in-Err.is) c.number.ensures

pub returns-in-Err-clause-place_after : goal.returns-in-Err-clause-place_after
returns-in-Err-clause-place_after c = rw (probed-accept, sym c.check_output.ensures ∙ c.in-Err.is) c.place.ensures

pub returns-in-Err-clause-out_after : goal.returns-in-Err-clause-out_after
unfolding left
returns-in-Err-clause-out_after c = rw (probed-accept, sym c.check_output.ensures ∙ c.in-Err.is)
