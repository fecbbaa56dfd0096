-- `pricing::price_regions` meets its contract. The loop's invariant: the regions passed are within the limit, and lines and cost are the sums of theirs.
-- Each point is above the last, so there are at most 64 regions.
use Prim.Native.Nat.{◌+◌, ◌≤◌, ◌<◌}
use mathlib.Core.Path.{◌≡◌, refl, sym, ap, ◌∙◌}
use native.Mathlib.Numerals.{add-one}
use native.Mathlib.Omega.{arith}
use borrow.Author.Tests.{not-true, not-false}
use lib.ListN.{get_or}
use Rattle.model.specs.Task.{block_count}
use Rattle.model.specs.Regions.{region_lines}
use Rattle.model.proofs.Regions.{lines-region}
use Rattle.taskfile.specs.File.{task_of}
use Rattle.taskfile.proofs.Accepted.{few-blocks}
use Rattle.pointlist.proofs.Points.{region-edges}
use Rattle.pricing.proofs.Pricing.{start_of, passed_none, passed-more, passed-above, passed-end}
use Rattle.pricing.proofs.Pricing.{above-pricing, accepted-pricing, refused-price, accepted-price}
use Rattle.pricing.proofs.price_regions.Goals as goal
use Rattle.pricing.proofs.price_regions.Goals.{After-edge_after-b}

pub block_count-n-requires : goal.block_count-n-requires
block_count-n-requires c = c.requires.0

pub loop-i-init : goal.loop-i-init
loop-i-init c = (passed_none _ _, refl)

-- the edge that ends the region
edge : (c : goal.After-edge_after-b)
    → let args = c.args in
    c.edge_after-b.result ≡ get_or args.points.now c.loop-i.i (block_count (task_of args.file.now))
edge c =
    let args = c.args in
    c.edge_after-b.ensures ∙ ap (get_or args.points.now c.loop-i.i) c.block_count-n.ensures.0

-- a region starts after as many edges as there are regions before it
few : (c : goal.After-edge_after-b) → c.loop-i.i < 64
few c =
    let edges = region-edges _ _ (omega (arith, c.block_count-n.ensures)) c.requires.1 c.loop-i.i (omega arith) in
    omega (arith, edges.0, edges.1, edges.2, few-blocks c.args.file.now c.requires.0)

-- the region's lines
counted : (c : goal.After-edge_after-b)
    → let args = c.args in
    get_or args.lines.now c.loop-i.i 0 ≡ region_lines (task_of args.file.now) c.loop-i.a c.edge_after-b.result
counted c =
    c.requires.2.loads c.loop-i.i (omega arith) ∙ rw (c.loop-i.invariant.1, edge c) refl

small : (c : goal.After-edge_after-b)
    → get_or c.args.lines.now c.loop-i.i 0 ≤ 512
small c = rw (counted c) (lines-region _ _ _)

pub offset_bounds-lines-i : goal.offset_bounds-lines-i
offset_bounds-lines-i c = omega (arith, few (goal.at.offset_bounds-lines-i c).After-edge_after-b)

pub bounds-lines-i : goal.bounds-lines-i
bounds-lines-i c = few (goal.at.bounds-lines-i c).After-edge_after-b

pub weigh_between-region-requires : goal.weigh_between-region-requires
weigh_between-region-requires c =
    let edges = region-edges _ _ (omega (arith, c.block_count-n.ensures)) c.requires.1 c.loop-i.i (omega arith) in
    (c.requires.0, omega (arith, edges.1, c.loop-i.invariant.1, edge (goal.at.weigh_between-region-requires c).After-edge_after-b), omega (arith, edges.2, edge (goal.at.weigh_between-region-requires c).After-edge_after-b), counted (goal.at.weigh_between-region-requires c).After-edge_after-b)

pub returns-then-not-region : goal.returns-then-not-region
returns-then-not-region c =
    let region = c.weigh_between-region in
    let above = passed-above c.loop-i.invariant.0 (omega arith)
    (rw (c.loop-i.invariant.1, edge (goal.at.returns-then-not-region c).After-edge_after-b) at (sym region.ensures.2 ∙ not-true c.weigh_between-region.result.fits c.if-not-region.true)) in
    refused-price _ _ (above-pricing _ _ c.requires.1 above)

pub offset_bounds-lines-i-in-loop-i : goal.offset_bounds-lines-i-in-loop-i
offset_bounds-lines-i-in-loop-i c = omega (arith, few (goal.at.offset_bounds-lines-i-in-loop-i c).After-edge_after-b)

pub bounds-lines-i-in-loop-i : goal.bounds-lines-i-in-loop-i
bounds-lines-i-in-loop-i c = few (goal.at.bounds-lines-i-in-loop-i c).After-edge_after-b

pub overflow_cast-total : goal.overflow_cast-total
overflow_cast-total c = record { fits = omega (arith, small (goal.at.overflow_cast-total c).After-edge_after-b) }

pub overflow_add-total : goal.overflow_add-total
overflow_add-total c = omega (arith, small (goal.at.overflow_add-total c).After-edge_after-b, few (goal.at.overflow_add-total c).After-edge_after-b, c.loop-i.invariant.0.few)

pub overflow_add-cost : goal.overflow_add-cost
overflow_add-cost c = omega (arith, c.weigh_between-region.ensures.3, few (goal.at.overflow_add-cost c).After-edge_after-b, c.loop-i.invariant.0.small)

pub loop-i-preserved : goal.loop-i-preserved
loop-i-preserved c =
    let region = c.weigh_between-region in
    let args = c.args in
    let next : c.edge_after-b.result ≡ start_of (task_of args.file.now) args.points.now (c.loop-i.i + 1) = edge (goal.at.loop-i-preserved c).After-edge_after-b ∙ rw (add-one c.loop-i.i) refl in (
      passed-more c.loop-i.invariant.0 (omega arith) _ region.result.cost
          (rw (c.loop-i.invariant.1, edge (goal.at.loop-i-preserved c).After-edge_after-b) at (sym region.ensures.2 ∙ not-false c.weigh_between-region.result.fits c.if-not-region.false))
          (counted (goal.at.loop-i-preserved c).After-edge_after-b ∙ rw (c.loop-i.invariant.1, edge (goal.at.loop-i-preserved c).After-edge_after-b) refl)
          (small (goal.at.loop-i-preserved c).After-edge_after-b)
          (rw (c.loop-i.invariant.1, edge (goal.at.loop-i-preserved c).After-edge_after-b) at region.ensures.1)
          region.ensures.3,
      next,
    )

pub returns : goal.returns
returns c =
    let end = passed-end c.loop-i.invariant.0 (omega arith) in
    accepted-price _ _ (accepted-pricing _ _ c.requires.1 end.0) end.1 end.2
