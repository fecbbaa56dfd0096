-- `probe::probe_join` meets its contract: an accepted join has place 0.
use mathlib.Core.Path.{sym, ◌∙◌}
use Rattle.answers.proofs.Places.{placed-ok}
use Rattle.joining.specs.Calls.{join_place}
use Rattle.probe.proofs.Left.{no-place}
use Rattle.probe.proofs.probe_join.Goals as goal

pub returns-in-Ok-clause-place_after : goal.returns-in-Ok-clause-place_after
unfolding join_place
returns-in-Ok-clause-place_after c =
    let joined = placed-ok _ _ _ _ (sym c.join.ensures.value ∙ c.in-Ok.is) in
    rw (joined.0, no-place)
