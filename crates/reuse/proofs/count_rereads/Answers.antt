-- `reuse::count_rereads` meets its contract. Both loops keep the state of the walk after the reads
-- passed. Without a scratch range each read is cached.
use Prim.Native.Nat.{suc, ◌+◌, ◌*◌, ◌≤◌, ◌<◌}
use mathlib.Core.Path.{◌≡◌, refl, sym, ap, ◌∙◌}
use native.Mathlib.Nat.{add-zero}
use native.Mathlib.Omega.{arith}
use native.Mathlib.Numerals.{add-one}
use lib.ListN.{length, get_or}
use Rattle.model.specs.Task.{block_count}
use Rattle.model.specs.Lines.{block_at}
use Rattle.model.specs.declared.Line.TheVariants.{Held}
use Rattle.model.proofs.ReadOrder.{edge, edge-suc}
use Rattle.taskfile.specs.File.{task_of}
use Rattle.taskfile.proofs.Accepted as accepted-file
use Rattle.cacheline.proofs.Below.{all-cached}
use Rattle.reuse.proofs.Counting.{counting-none, counting_more, count_small, counting-block, counting-all, counting-few}
use Rattle.reuse.proofs.count_rereads.Goals as goal
use Rattle.reuse.proofs.count_rereads.Goals.{then-whole, else-whole, After-slot_of-slot}

pub loop-i-init : goal.loop-i-init
loop-i-init c =
    rw c.requires.counts_value (counting-none (task_of c.args.file.now))

pub read_count-reads-requires : goal.read_count-reads-requires
read_count-reads-requires c =
    (c.requires.accepted.0, omega arith, omega (arith, accepted-file.block-count c.args.file.now))

pub loop-j-init : goal.loop-j-init
loop-j-init c = rw add-zero c.loop-i.invariant

pub read-number-requires-clause-accepted : goal.read-number-requires-clause-accepted
read-number-requires-clause-accepted c =
    (c.requires.accepted.0, omega arith, omega (arith, accepted-file.block-count c.args.file.now))

-- the count is one of the array
column : (c : goal.After-slot_of-slot)
    → 64 * c.loop-i.i + get_or c.loop-j.since c.slot_of-slot.result.line 0 < 4096
column c = omega (arith, c.loop-j.invariant.recent c.slot_of-slot.result.line c.slot_of-slot.ensures.1)

pub overflow_cast-at : goal.overflow_cast-at
overflow_cast-at c = record { fits = omega (arith, column (goal.at.overflow_cast-at c).After-slot_of-slot) }

pub overflow_add-at : goal.overflow_add-at
overflow_add-at c = record { fits = omega (arith, column (goal.at.overflow_add-at c).After-slot_of-slot) }

pub overflow_add-counts : goal.overflow_add-counts
overflow_add-counts c =
    let outer = c.loop-i in
    let inner = c.loop-j in
    let t = task_of c.args.file.now in
    record {
      fits =
          omega (
            arith,
            count_small t outer.i _ c.slot_of-slot.result.line (omega arith) c.slot_of-slot.ensures.1 inner.invariant,
            c.reread.ensures.1,
            c.read_count-reads.ensures.1,
          );
    }

pub loop-j-preserved : goal.loop-j-preserved
loop-j-preserved c =
    let outer = c.loop-i in
    let inner = c.loop-j in
    let whole = c.caches_all-whole in
    let file = c.args.file.now in
    let t = task_of file in
    let number = c.read-number in
    let slot = c.slot_of-slot in
    let line = c.slot_of-slot.result.line in
    let cached = c.slot_of-slot.result.cached in
    let taken = c.loop-j-test.true in
    let inside : outer.i < block_count t =
    omega (arith, c.loop-i-test.true, c.block_count-blocks.ensures.0) in
    let reads-are = accepted-file.reads_at file outer.i (omega (arith, accepted-file.block-count file)) in
    let counted : inner.j < length (block_at t outer.i).reads = rw reads-are (omega (arith, taken, c.read_count-reads.ensures.0)) in
    let number_is : get_or (block_at t outer.i).reads inner.j 0 ≡ number.result = rw reads-are (sym number.ensures) in
    let next : edge t outer.i + (inner.j + 1) ≡ suc (edge t outer.i + inner.j) = omega arith in
    let of = slot.ensures.0 t c.requires.accepted.1 in
    let reread = c.reread in
    let more =
    counting_more t outer.i inner.j number.result inside counted number_is inner.invariant line reread.result cached slot.ensures.1 of.lies
    (accepted-file.few-blocks file c.requires.accepted.0) (reread.ensures.0 ∙ rw (c.requires.evicted_len.1 line) refl) reread.ensures.1 in
    rw next
    (elim c.if-whole.branch [
      | then-whole w ↦
          let on = all-cached t number.result slot.result of (sym (whole.ensures t c.requires.accepted.1) ∙ w.if-whole.true) in
          rw w.held-is (more (Held number.result) _ (rw on refl) c.if_cached.ensures)
      | else-whole w ↦ rw w.held-is (more _ _ w.if_cached-else-whole.ensures c.if_cached.ensures)
    ])

pub loop-i-preserved : goal.loop-i-preserved
loop-i-preserved c =
    let file = c.args.file.now in
    let t = task_of file in
    let outer = c.loop-i in
    let inner = c.loop-j in
    let reads-are = accepted-file.reads_at file outer.i (omega (arith, accepted-file.block-count file)) in
    let whole : length (block_at t outer.i).reads ≡ inner.j = rw reads-are (omega arith) in
    let there : edge t outer.i + inner.j ≡ edge t (suc outer.i) = rw (edge-suc t outer.i (omega arith), whole) refl in
    rw add-one (counting-block t outer.i (rw there at inner.invariant))

pub returns : goal.returns
returns c =
    let file = c.args.file.now in
    let l = c.loop-i in
    let end : l.i ≡ block_count (task_of file) = omega arith in
    let most : block_count (task_of file) ≤ 64 = accepted-file.few-blocks file c.requires.accepted.0 in
    record {
      long = l.invariant.long;
      few =
          λ r h.
          omega (
            arith,
            counting-few (task_of file) l.i end most l.invariant r h,
            ap length (accepted-file.reads_at file r (omega (arith, accepted-file.block-count file))),
            accepted-file.length-reads file (r + 1),
            (accepted-file.accepted file c.requires.accepted.0).count_most (r + 1) (omega arith) (omega (arith, accepted-file.block-count file)),
          );
      sums = counting-all (task_of file) l.i end most l.invariant;
    }
