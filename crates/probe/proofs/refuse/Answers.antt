-- `probe::refuse` meets its contract: the buffer's length comes before the refusal.
use mathlib.Core.Path.{◌≡◌, ap, ◌∙◌}
use Rattle.std.specs.Prelude.{Err}
use Rattle.model.specs.Answers.{verdict_number, verdict_place}
use Rattle.probe.specs.Calls.{probed}
use Rattle.probe.proofs.Left.{first-of}
use Rattle.probe.proofs.refuse.Goals as goal
use Rattle.probe.proofs.refuse.Goals.{After-and-answer}

decided : (c : goal.After-and-answer) → c.and-answer.result ≡ probed c.args.size (Err c.args.refusal) c.args.out.now
unfolding probed
decided c = c.and-answer.ensures ∙ rw (c.check_output.ensures, first-of)

pub returns-clause-value : goal.returns-clause-value
returns-clause-value c = c.verdict_number.ensures ∙ ap verdict_number (decided (goal.at.returns-clause-value c).After-and-answer)

pub returns-clause-place_after : goal.returns-clause-place_after
returns-clause-place_after c = c.verdict_place.ensures ∙ ap verdict_place (decided (goal.at.returns-clause-place_after c).After-and-answer)
