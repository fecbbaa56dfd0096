-- `regions::weigh_between` meets its contract: these are the region's numbers.
use native.Mathlib.Omega.{arith}
use Rattle.model.proofs.Regions.{lines-region}
use Rattle.taskfile.specs.File.{task_of}
use Rattle.taskfile.proofs.Accepted.{few-blocks}
use Rattle.regions.specs.Measures.{Counted}
use Rattle.regions.proofs.weigh_between.Goals as goal

pub weigh-requires : goal.weigh-requires
weigh-requires c =
    let file = c.args.file.now in (
      omega (arith, c.run_between.ensures.small, c.requires.2, few-blocks file c.requires.0),
      omega (arith, c.requires.3, lines-region (task_of file) c.args.a c.args.b),
    )

pub returns : goal.returns
returns c =
    let file = c.args.file.now in
    let t = task_of file in
    let run = c.run_between in
    let weighs = c.weigh.ensures in
    let header_is = c.header.ensures.0 in
    let counted : Counted t (record { from = c.args.a; to = c.args.b; lines = c.args.lines; run = run.result }) =
    record {
      rising = c.requires.1;
      within = c.requires.2;
      lines = c.requires.3;
      few = omega (arith, c.requires.3, lines-region t c.args.a c.args.b);
      run = run.ensures;
    } in
    (weighs.length t header_is counted, weighs.cost t header_is counted, weighs.fits t header_is counted, weighs.small)
