-- `regions::run_between` meets its contract. The loop's invariant: the run of the blocks passed; at most 64 times of 32 bits fit.
use Prim.Native.Nat.{◌+◌, ◌-◌}
use mathlib.Core.Path.{◌≡◌}
use native.Mathlib.Omega.{arith}
use Rattle.taskfile.specs.File.{task_of}
use Rattle.taskfile.proofs.Accepted.{few-blocks}
use Rattle.regions.proofs.Runs.{run_none, run_more}
use Rattle.regions.proofs.run_between.Goals as goal

pub loop-i-init : goal.loop-i-init
loop-i-init c = rw c.none-run.ensures (run_none (task_of c.args.file.now) c.args.a c.header-header.result c.header-header.ensures.0)

pub longer-run-requires : goal.longer-run-requires
longer-run-requires c =
    omega (arith, c.loop-i.invariant.small, c.requires.2, few-blocks c.args.file.now c.requires.0)

pub loop-i-preserved : goal.loop-i-preserved
loop-i-preserved c =
    let l = c.loop-i in
    let back : l.i + 1 - 1 ≡ l.i = omega arith in
    run_more (task_of c.args.file.now) c.args.a l.i c.time.result c.armed.result c.header-header.result l.run c.longer-run.result
    (omega arith) l.invariant (rw back at c.time.ensures) (omega arith) (rw back at c.armed.ensures) c.header-header.ensures.0
    c.longer-run.ensures.0 c.longer-run.ensures.1

pub returns : goal.returns
returns c =
    let end : c.loop-i.i ≡ c.args.b = omega arith in
    rw end at c.loop-i.invariant
