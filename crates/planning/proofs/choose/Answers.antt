-- `planning::choose` meets its contract. The loop's invariant: the region is that from edge a, and the choice is of the edges up to its end.
-- Where the next region is above the limit, so are all longer ones, and the choice is of all edges.
use Prim.Native.Nat.{◌-◌}
use mathlib.Core.Path.{◌≡◌, sym, ◌∙◌}
use mathlib.Core.Bool.{false}
use native.Mathlib.Omega.{arith}
use borrow.Author.Tests.{not-true, not-false}
use Rattle.model.specs.Regions.{region_lines, region_fits, region_cost}
use Rattle.model.proofs.Regions.{longer-above}
use Rattle.placement.proofs.Rows.{tried-none, tried-all}
use Rattle.taskfile.specs.File.{task_of}
use Rattle.taskfile.proofs.Accepted.{few-blocks}
use Rattle.planning.proofs.choose.Goals as goal
use Rattle.planning.proofs.choose.Goals.{After-weigh-weighed}

pub block_count-n-requires : goal.block_count-n-requires
block_count-n-requires c = c.requires.0.accepted

pub header-header-requires : goal.header-header-requires
header-header-requires c = c.requires.0.accepted

pub loop-region-init : goal.loop-region-init
loop-region-init c =
    let at = c.at-region.ensures in (
      at.0 (task_of c.args.file.now) c.header-header.ensures.0 (omega (arith, c.requires.1)),
      at.1,
      omega arith,
      rw (at.2, c.untried-choice.ensures) (tried-none (omega arith)),
    )

pub longer-region-requires : goal.longer-region-requires
longer-region-requires c = (c.requires.0, c.loop-region.invariant.0, omega arith)

pub weigh-weighed-requires : goal.weigh-weighed-requires
weigh-weighed-requires c =
    let counted = c.longer-region.ensures.0 in
    (omega (arith, counted.run.small, counted.within, few-blocks c.args.file.now c.requires.0.accepted), counted.few)

-- the region is still that from edge a
from : (c : goal.After-weigh-weighed) → c.longer-region.result.from ≡ c.args.a
from c = c.longer-region.ensures.1 ∙ c.loop-region.invariant.1

-- and weighs what the definitions say
header_is : (c : goal.After-weigh-weighed)
    → c.header-header.result ≡ (task_of c.args.file.now).header
header_is c = c.header-header.ensures.0

pub returns-then-not-weighed : goal.returns-then-not-weighed
returns-then-not-weighed c =
    let t = task_of c.args.file.now in
    let region = c.longer-region in
    let above : region_fits t c.args.a region.result.to ≡ false =
    sym (rw (from (goal.at.returns-then-not-weighed c).After-weigh-weighed) at (c.weigh-weighed.ensures.fits t (header_is (goal.at.returns-then-not-weighed c).After-weigh-weighed) region.ensures.0)) ∙ not-true c.weigh-weighed.result.fits c.if-not-weighed.true in
    rw (← c.block_count-n.ensures.0)
    (tried-all (λ k lo hi. longer-above t c.args.a region.result.to k (omega (arith, region.ensures.2)) above) c.loop-region.invariant.3)

pub with-choice-requires : goal.with-choice-requires
with-choice-requires c = (
  omega (arith, c.longer-region.ensures.2, c.loop-region-test.true),
  omega (arith, c.block_count-n.ensures.2),
  omega (arith, c.weigh-weighed.ensures.small),
)

pub loop-region-preserved : goal.loop-region-preserved
loop-region-preserved c =
    let t = task_of c.args.file.now in
    let a = c.args.a in
    let region = c.longer-region in
    let b = c.longer-region.result.to in
    let weighs = c.weigh-weighed.ensures in
    let grown = c.longer-region.ensures in
    let back : b - 1 ≡ c.loop-region.region.to = omega (arith, grown.2) in (
      grown.0,
      grown.1 ∙ c.loop-region.invariant.1,
      omega (arith, grown.2, c.loop-region-test.true),
      c.with-choice.ensures.tried (region_fits t) (region_cost t) (region_lines t) a (omega (arith, grown.2, c.loop-region.invariant.0.rising, c.loop-region.invariant.1))
          (sym (rw (from (goal.at.loop-region-preserved c).After-weigh-weighed) at (weighs.fits t (header_is (goal.at.loop-region-preserved c).After-weigh-weighed) grown.0)) ∙ not-false c.weigh-weighed.result.fits c.if-not-weighed.false)
          (rw (from (goal.at.loop-region-preserved c).After-weigh-weighed) at (weighs.cost t (header_is (goal.at.loop-region-preserved c).After-weigh-weighed) grown.0)) (rw (from (goal.at.loop-region-preserved c).After-weigh-weighed) at grown.0.lines) (rw back c.loop-region.invariant.3),
    )

pub returns : goal.returns
returns c =
    let n = c.block_count-n in
    let end : c.loop-region.region.to ≡ n.result = omega (arith, c.loop-region.invariant.2, c.loop-region-test.false) in
    rw (← n.ensures.0) (rw end at c.loop-region.invariant.3)
