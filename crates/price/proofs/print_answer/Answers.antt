-- A file whose list is priced was accepted, and the list is well formed.
use Rattle.std.proofs.Common.{sym, ◌∙◌}
use Rattle.model.specs.Task.{block_count}
use Rattle.model.specs.Lists.{steps, right_point}
use Rattle.model.specs.Answers.{pricing}
use Rattle.model.proofs.Lists.{lowest-none}
use Rattle.model.proofs.Regions.{accepted-well-formed}
use Rattle.model.proofs.Verdicts.{answered-ok, both-accepted}
use Rattle.taskfile.specs.File.{verdict, task_of}
use Rattle.planner.specs.Calls.{price_verdict}
use Rattle.price.proofs.print_answer.Goals as goal

pub print_price-requires : goal.print_price-requires
unfolding price_verdict
print_price-requires g c =
    let t = task_of c.args.file.now in
    let ps = c.args.points.now in
    let answer = answered-ok _ _ _ (sym c.price.ensures ∙ c.in-Ok.is) in
    let accepted = both-accepted (verdict c.args.file.now) (pricing t ps) answer.0 in
    (accepted.0, lowest-none (right_point (block_count t)) 0 (steps 0 ps) (accepted-well-formed t ps accepted.1))
