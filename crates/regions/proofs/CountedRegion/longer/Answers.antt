-- `regions::CountedRegion::longer` meets its contract: the lines grow by those that the region loads first in the next block, and the run of
-- blocks by that block. At most 64 times of 32 bits fit.
use Prim.Native.Nat.{◌+◌, ◌-◌, ◌*◌, ◌≤◌, ◌<◌}
use mathlib.Core.Path.{◌≡◌, refl, sym, ap₂, ◌∙◌}
use native.Mathlib.Numerals.{add-one}
use native.Mathlib.Omega.{arith}
use lib.ListN.{get_or}
use Rattle.model.specs.Regions.{region_lines}
use Rattle.model.proofs.Regions.{lines-region, region-longer}
use Rattle.taskfile.specs.File.{task_of}
use Rattle.taskfile.proofs.Accepted.{few-blocks}
use Rattle.regions.proofs.Runs.{run_more}
use Rattle.regions.proofs.CountedRegion.longer.Goals as goal
use Rattle.regions.proofs.CountedRegion.longer.Goals.{Start}

below : (c : goal.Start) → c.args.self.to < 64
below c = omega (arith, few-blocks c.args.file.now c.requires.0.accepted)

-- the lines with those of the next block
lines_are : (c : goal.Start)
    → let s = c.args.self in
    s.lines + get_or c.args.counts.now (64 * s.to + s.from) 0 ≡ region_lines (task_of c.args.file.now) s.from (s.to + 1)
lines_are c =
    let s = c.args.self in
    let t = task_of c.args.file.now in
    let back : s.to + 1 - 1 ≡ s.to = omega arith in
    let new = rw back at (c.requires.0.counted s.from (s.to + 1) (omega (arith, c.requires.1.rising)) (omega arith)) in
    ap₂ ◌+◌ c.requires.1.lines new ∙ rw add-one (sym (region-longer t s.from s.to))

few : (c : goal.Start) → c.args.self.lines + get_or c.args.counts.now (64 * c.args.self.to + c.args.self.from) 0 ≤ 512
few c = omega (arith, lines_are c, lines-region (task_of c.args.file.now) c.args.self.from (c.args.self.to + 1))

pub overflow_add-next : goal.overflow_add-next
overflow_add-next c = omega (arith, below (goal.at.overflow_add-next c).Start)

pub overflow_mul-new : goal.overflow_mul-new
overflow_mul-new c = omega (arith, below (goal.at.overflow_mul-new c).Start)

pub overflow_add-new : goal.overflow_add-new
overflow_add-new c = omega (arith, below (goal.at.overflow_add-new c).Start, c.requires.1.rising)

pub bounds-counts-to : goal.bounds-counts-to
bounds-counts-to c = omega (arith, below (goal.at.bounds-counts-to c).Start, c.requires.1.rising)

pub overflow_cast-result : goal.overflow_cast-result
overflow_cast-result c = omega (arith, few (goal.at.overflow_cast-result c).Start)

pub overflow_add-result : goal.overflow_add-result
overflow_add-result c = omega (arith, few (goal.at.overflow_add-result c).Start)

pub longer-run-requires : goal.longer-run-requires
longer-run-requires c = omega (arith, below (goal.at.longer-run-requires c).Start, c.requires.1.run.small)

pub returns : goal.returns
returns c =
    let s = c.args.self in
    let counted = c.requires.1 in
    let back : s.to + 1 - 1 ≡ s.to = omega arith in (
      record {
        rising = omega (arith, counted.rising);
        within = omega (arith, c.requires.2);
        lines = lines_are (goal.at.returns c).Start;
        few = few (goal.at.returns c).Start;
        run = run_more (task_of c.args.file.now) s.from s.to c.time.result c.armed.result c.header.result s.run c.longer-run.result
            counted.rising counted.run (rw back at c.time.ensures) (omega arith) (rw back at c.armed.ensures) c.header.ensures.0
            c.longer-run.ensures.0 c.longer-run.ensures.1;
      },
      refl,
      refl,
    )
