-- A value of the type fits, so what is stored reads back.
use Rattle.std.proofs.Common.{rules, refl, replicate}
use Rattle.model.specs.Answers.{output_row}
use Rattle.planblock.specs.Plans.{store_verdict, PlanFits}
use Rattle.planblock.proofs.Roundtrip.{stored-reads, point-fits}
use Rattle.planblock_cases.proofs.round_trip.Goals as goal

pub returns : goal.returns
unfolding store_verdict output_row
returns c accepted =
    let fits : PlanFits c.args.plan = search (rules, point-fits) in
    let back = stored-reads c.args.plan (replicate 512 0) fits accepted in
    rw (c.read.ensures, c.store.ensures.out_after, back.0, back.1) refl
