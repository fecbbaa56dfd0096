-- `replaying::count_misses` meets its contract. Both loops keep the walk's state after the blocks and reads passed, and the points that are left.
use Prim.Native.Nat.{suc, ◌+◌, ◌<◌}
use mathlib.Core.Path.{◌≡◌, refl, sym, ◌∙◌}
use native.Mathlib.Nat.{add-zero}
use native.Mathlib.Omega.{arith}
use native.Mathlib.Numerals.{add-one}
use lib.ListN.{length, get_or}
use Rattle.model.specs.Task.{block_count}
use Rattle.model.specs.Lines.{block_at}
use Rattle.model.specs.Lists.{steps, right_point}
use Rattle.model.proofs.Lists.{none-lowest}
use Rattle.model.proofs.ReadOrder.{edge, edge-suc}
use Rattle.taskfile.specs.File.{task_of}
use Rattle.taskfile.proofs.Accepted as accepted-file
use Rattle.cacheline.proofs.Below.{line-below}
use Rattle.replaying.proofs.Steps.{at-start, read-skip, read_more, pass-edge, at-end}
use Rattle.replaying.proofs.count_misses.Goals as goal
use Rattle.replaying.proofs.count_misses.Goals.{in_default, in-Some}

pub loop-i-init : goal.loop-i-init
loop-i-init c =
    let t = task_of c.args.file.now in
    let ps = c.args.points.now in (
      omega arith,
      omega arith,
      omega arith,
      none-lowest (right_point (block_count t)) 0 (steps 0 ps) c.requires.1,
      at-start t ps,
    )

pub read_count-reads-requires : goal.read_count-reads-requires
read_count-reads-requires c =
    (c.requires.0, omega arith, omega (arith, accepted-file.block-count c.args.file.now))

pub loop-j-init : goal.loop-j-init
loop-j-init c = (omega arith, omega arith, rw add-zero c.loop-i.invariant.4)

pub read-number-requires : goal.read-number-requires
read-number-requires c =
    record { accepted = (c.requires.0, omega arith, omega (arith, accepted-file.block-count c.args.file.now)); j_in_bounds = omega arith }

pub loop-j-preserved : goal.loop-j-preserved
loop-j-preserved c =
    let outer = c.loop-i in
    let inner = c.loop-j in
    let marks = c.mark_evicted.ensures.by_index in
    let file = c.args.file.now in
    let t = task_of file in
    let ps = c.args.points.now in
    let cache = c.geometry_of-cache in
    let number = c.read-number in
    let line = c.line_of in
    let taken = c.loop-j-test.true in
    let inside : outer.i < block_count t =
    omega (arith, c.loop-i-test.true, c.block_count-blocks.ensures.0) in
    let reads-are = accepted-file.reads_at file outer.i (omega (arith, accepted-file.block-count file)) in
    let counted : inner.j < length (block_at t outer.i).reads = rw reads-are (omega (arith, taken, c.read_count-reads.ensures.0)) in
    let number_is : get_or (block_at t outer.i).reads inner.j 0 ≡ number.result = rw reads-are (sym number.ensures) in
    let is = sym (line.ensures.0 t cache.ensures) in
    let next : edge t outer.i + (inner.j + 1) ≡ suc (edge t outer.i + inner.j) = omega arith in
    elim c.match-line_of.branch [
      | in_default w ↦
          rw (w.alone-is, w.preempted-is, w.held-is, w.since-is, next) (
            omega (arith, inner.invariant.0),
            omega (arith, inner.invariant.1),
            read-skip t ps number.result inside counted number_is outer.invariant.2 inner.invariant.2 (is ∙ w.in_default.is),
          )
      | in-Some w ↦
          let on = w.in-Some.c in
          rw (w.alone-is, w.preempted-is, w.held-is, w.since-is, next) (
            omega (arith, inner.invariant.0, w.missed-alone.ensures.1),
            omega (arith, inner.invariant.1, w.missed-preempted.ensures.1),
            read_more t ps number.result inside counted number_is outer.invariant.2 inner.invariant.2 on (outer.i + 1) _ _ (line-below line.result on w.in-Some.is line.ensures.1)
                (is ∙ w.in-Some.is) (add-one outer.i) w.missed-alone.ensures.0 (w.missed-preempted.ensures.0 ∙ rw (w.is_lost-lost.ensures, marks on) refl),
          )
    ]

pub loop-i-preserved : goal.loop-i-preserved
loop-i-preserved c =
    let file = c.args.file.now in
    let t = task_of file in
    let outer = c.loop-i in
    let inner = c.loop-j in
    let counted = c.read_count-reads.ensures in
    let reads-are = accepted-file.reads_at file outer.i (omega (arith, accepted-file.block-count file)) in
    let done : length (block_at t outer.i).reads ≡ inner.j = rw reads-are (omega (arith, counted.0)) in
    let inside : outer.i < block_count t = omega arith in
    let there : edge t outer.i + inner.j ≡ edge t (suc outer.i) = rw (edge-suc t outer.i inside, done) refl in
    let next =
    pass-edge t c.args.points.now outer.invariant.2 outer.invariant.3 c.pass-passed.result (rw add-one at c.pass-passed.ensures) inside (rw there at inner.invariant.2) in
    (omega arith, omega arith, rw add-one next.1, rw add-one next.2, rw add-one next.0)

pub returns : goal.returns
returns c =
    let l = c.loop-i in
    let t = task_of c.args.file.now in
    let of = c.geometry_of-cache.ensures in
    let formed = none-lowest (right_point (block_count t)) 0 (steps 0 c.args.points.now) c.requires.1 in
    let both =
    at-end t c.args.points.now l.invariant.2 l.invariant.3 (omega (arith, of.sound.some, of.count)) (omega (arith, of.sound.most, of.count)) formed (omega arith) l.invariant.4 in
    rw (both.0, both.1) refl
