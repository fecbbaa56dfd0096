-- `probe::probe_replay` meets its contract: what the call answers is left, and a refusal leaves the buffer as it was.
use mathlib.Core.Path.{sym, ◌∙◌}
use Rattle.model.proofs.Verdicts.{answered-err}
use Rattle.probe.proofs.Left.{left-refused}
use Rattle.probe.proofs.probe_replay.Goals as goal

pub returns-in-Err-clause-out_after : goal.returns-in-Err-clause-out_after
returns-in-Err-clause-out_after c = let refused = answered-err _ _ _ (sym c.replay.ensures ∙ c.in-Err.is) in rw (refused, left-refused)
