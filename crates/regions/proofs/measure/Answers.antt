-- `regions::measure` meets its contract: the loaded lines are those in common, and length, cost and fit follow from their number.
use Prim.Native.Nat.{ℕ, ◌≤◌}
use mathlib.Core.Path.{◌≡◌, ap₂, ◌∙◌}
use mathlib.Core.Bool.{◌&&◌}
use native.Mathlib.Omega.{arith}
use Rattle.model.specs.Regions.{loaded, region_lines}
use Rattle.model.proofs.Sets.{size-agree}
use Rattle.lineset.specs.Members.{members}
use Rattle.taskfile.specs.File.{task_of}
use Rattle.regions.proofs.Widths.{few-lines}
use Rattle.regions.proofs.measure.Goals as goal
use Rattle.regions.proofs.measure.Goals.{After-size-lines}

few : (c : goal.After-size-lines) → c.size-lines.result ≤ 512
few c = few-lines c.common-loaded.result c.size-lines.ensures

-- the loaded lines, and their number
loads : (c : goal.After-size-lines)
    → let args = c.args in
    (d : ℕ) → members c.common-loaded.result d ≡ loaded (task_of args.file.now) args.a args.b d
unfolding loaded
loads c =
    let between = c.lines_between-between.ensures in
    λ d.
    c.common-loaded.ensures d ∙ ap₂ ◌&&◌ (c.common-lost.ensures d ∙ ap₂ ◌&&◌ (c.lines_between-between.ensures.by_index d) (c.evicted_lines.ensures d)) (c.lines_between-between.ensures.by_index_2 d)

count : (c : goal.After-size-lines) → let args = c.args in c.size-lines.result ≡ region_lines (task_of args.file.now) args.a args.b
unfolding region_lines
count c = c.size-lines.ensures ∙ size-agree (λ d _. loads c d)

pub weigh_between-weighed-requires : goal.weigh_between-weighed-requires
weigh_between-weighed-requires c =
    (c.requires.0, omega arith, c.requires.2, count (goal.at.weigh_between-weighed-requires c).After-size-lines)

pub returns : goal.returns
returns c =
    let weighs = c.weigh_between-weighed.ensures in
    record {
      loaded = loads (goal.at.returns c).After-size-lines;
      lines = count (goal.at.returns c).After-size-lines;
      length = weighs.0;
      cost = weighs.1;
      fits = weighs.2;
      few = few (goal.at.returns c).After-size-lines;
      small = weighs.3;
    }
