-- `reuse::held_after` meets its contract. Both loops keep what the lines hold after the reads passed.
use Prim.Native.Nat.{suc, ◌+◌, ◌<◌}
use mathlib.Core.Path.{◌≡◌, refl, sym, ◌∙◌}
use mathlib.Core.Bool.{true, false}
use native.Mathlib.Nat.{add-zero}
use native.Mathlib.Omega.{arith}
use native.Mathlib.Numerals.{add-one}
use lib.ListN.{length, get_or, length-set, get_or-replicate}
use lib.Seq.{get_or-set_same, get_or-set_other}
use Rattle.model.specs.Task.{block_count}
use Rattle.model.specs.Lines.{block_at, reads_of, state_after}
use Rattle.model.specs.declared.Line.TheVariants.{Empty}
use Rattle.model.proofs.Histories.{lies-cached, lies-uncached, holds-none, holds_more}
use Rattle.model.proofs.ReadOrder.{edge, edge-suc, take-edge}
use Rattle.taskfile.specs.File.{task_of}
use Rattle.taskfile.proofs.Accepted as accepted-file
use Rattle.cacheline.proofs.Below.{line-below}
use Rattle.reuse.proofs.held_after.Goals as goal
use Rattle.reuse.proofs.held_after.Goals.{in-Some, in_default}

pub loop-i-init : goal.loop-i-init
unfolding reads_of
loop-i-init c = (refl, holds-none _ (λ d h. get_or-replicate 512 d Empty Empty h))

pub read_count-reads-requires : goal.read_count-reads-requires
read_count-reads-requires c =
    (c.requires.0, omega arith, omega (arith, c.requires.1, accepted-file.block-count c.args.file.now))

pub loop-j-init : goal.loop-j-init
loop-j-init c = let l = c.loop-i in (l.invariant.0, rw add-zero l.invariant.1)

pub read-number-requires-clause-accepted : goal.read-number-requires-clause-accepted
read-number-requires-clause-accepted c =
    (c.requires.0, omega arith, omega (arith, c.requires.1, accepted-file.block-count c.args.file.now))

pub loop-j-preserved : goal.loop-j-preserved
loop-j-preserved c =
    let file = c.args.file.now in
    let t = task_of file in
    let outer = c.loop-i in
    let inner = c.loop-j in
    let number = c.read-number in
    let line = c.line_of in
    let reads-are = accepted-file.reads_at file outer.i (omega (arith, c.requires.1, accepted-file.block-count file)) in
    let inside : outer.i < block_count t = omega (arith, c.requires.1) in
    let counted : inner.j < length (block_at t outer.i).reads = rw reads-are (omega arith) in
    let number_is : get_or (block_at t outer.i).reads inner.j 0 ≡ number.result = rw reads-are (sym number.ensures) in
    let is = sym (line.ensures.0 t c.requires.2) in
    let next : edge t outer.i + (inner.j + 1) ≡ suc (edge t outer.i + inner.j) = omega arith in
    elim c.match-line_of.branch [
      | in_default w ↦
          rw (w.held-is, next) (
            inner.invariant.0,
            holds_more t outer.i inner.j number.result inside counted number_is 0 false (lies-uncached t number.result (is ∙ w.in_default.is))
                refl (λ d n. refl) inner.invariant.1,
          )
      | in-Some w ↦
          let on = w.in-Some.c in
          let low = line-below line.result on w.in-Some.is line.ensures.1 in
          rw (w.held-is, next) (
            length-set inner.held on _ ∙ inner.invariant.0,
            holds_more t outer.i inner.j number.result inside counted number_is on true (lies-cached t number.result on (is ∙ w.in-Some.is))
                (get_or-set_same inner.held on _ Empty (omega (arith, inner.invariant.0))) (λ d n. get_or-set_other inner.held on d _ Empty n) inner.invariant.1,
          )
    ]

pub loop-i-preserved : goal.loop-i-preserved
loop-i-preserved c =
    let file = c.args.file.now in
    let outer = c.loop-i in
    let inner = c.loop-j in
    let reads-are = accepted-file.reads_at file outer.i (omega (arith, c.requires.1, accepted-file.block-count file)) in
    let whole : length (block_at (task_of file) outer.i).reads ≡ inner.j = rw reads-are (omega arith) in
    let there : edge (task_of file) (outer.i + 1) ≡ edge (task_of file) outer.i + inner.j =
    rw (add-one, edge-suc (task_of file) outer.i (omega (arith, c.requires.1)), whole) refl in
    (inner.invariant.0, rw there inner.invariant.1)

pub returns : goal.returns
unfolding state_after
returns c =
    let t = task_of c.args.file.now in
    let l = c.loop-i in
    let done : l.i ≡ c.args.k = omega arith in
    (l.invariant.0, λ d h. l.invariant.1 d h ∙ rw (done, take-edge t c.args.k) refl)
