-- `enumerating::evaluate_row` meets its contract. The loop's invariant: the region starts at edge
-- a, and the table holds the regions up to its end.
use Prim.Native.Nat.{suc, ◌+◌, ◌*◌}
use mathlib.Core.Path.{◌≡◌, ◌∙◌}
use native.Mathlib.Omega.{arith}
use Rattle.taskfile.specs.File.{task_of}
use Rattle.enumerating.proofs.Filling.{table_same, table_more}
use Rattle.enumerating.proofs.evaluate_row.Goals as goal

pub block_count-n-requires : goal.block_count-n-requires
block_count-n-requires c = c.requires.new_lines.0.accepted

pub header-header-requires : goal.header-header-requires
header-header-requires c = c.requires.new_lines.0.accepted

pub loop-region-init : goal.loop-region-init
loop-region-init c =
    let at = c.at-region.ensures in
    let few = c.requires.new_lines.1 in (
      at.0 (task_of c.args.file.now) c.header-header.ensures.0 (omega (arith, c.requires.new_lines.2)),
      at.1,
      omega arith,
      rw at.2 (table_same few (omega arith) (λ x y h l k. omega (arith, few)) c.requires.table_before),
    )

pub longer-region-requires : goal.longer-region-requires
longer-region-requires c =
    (c.requires.new_lines.0, c.loop-region.invariant.0, omega arith)

pub weigh-weighed-requires : goal.weigh-weighed-requires
weigh-weighed-requires c =
    let counted = c.longer-region.ensures.0 in
    (omega (arith, counted.run.small, counted.within, c.requires.new_lines.1), counted.few)

pub loop-region-smaller : goal.loop-region-smaller
loop-region-smaller c = omega (arith, c.longer-region.ensures.2)

pub loop-region-preserved : goal.loop-region-preserved
loop-region-preserved c =
    let l = c.loop-region in
    let t = task_of c.args.file.now in
    let a = c.args.a in
    let region = c.longer-region in
    let b = c.longer-region.result.to in
    let grown = c.longer-region.ensures in
    let weighs = c.weigh-weighed.ensures in
    let header_is = c.header-header.ensures.0 in
    let from = grown.1 ∙ l.invariant.1 in
    let back : suc (17 * a + l.region.to) ≡ 17 * a + b = omega (arith, grown.2) in (
      grown.0,
      grown.1 ∙ l.invariant.1,
      omega (arith, grown.2),
      table_more c.requires.new_lines.1 a b (omega (arith, grown.2, l.invariant.0.rising, l.invariant.1)) grown.0.within _ _ _ (rw from at (weighs.fits t header_is grown.0))
          (rw from at grown.0.lines) (rw from at (weighs.cost t header_is grown.0)) grown.0.few weighs.small (rw back at l.invariant.3),
    )

pub returns : goal.returns
returns c =
    let l = c.loop-region in
    let few = c.requires.new_lines.1 in
    table_same few (omega (arith, few)) (λ x y h k m. omega (arith, few)) l.invariant.3
