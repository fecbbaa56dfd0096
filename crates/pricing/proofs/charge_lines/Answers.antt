-- `pricing::charge_lines` meets its contract. Both loops keep what the lines hold and since when, the regions counted, and the charges.
use Prim.Native.Nat.{suc, ◌+◌, ◌%◌, ◌≤◌, ◌<◌}
use mathlib.Core.Path.{◌≡◌, refl, sym, ap, ap₂, ◌∙◌}
use mathlib.Core.Bool.{cond, ◌&&◌}
use native.Mathlib.Nat.{add-zero}
use native.Mathlib.Omega.{arith}
use native.Mathlib.Numerals.{add-one}
use lib.Dec.{ltb}
use lib.ListN.{length, get_or, get_or-eq_default}
use Rattle.model.specs.Task.{block_count, preempter_count}
use Rattle.model.specs.Sets.{bit}
use Rattle.model.specs.Lines.{block_at, same_block, evicted}
use Rattle.model.specs.declared.Line.TheVariants.{Empty, Held}
use Rattle.model.proofs.Loads.{loaded-few}
use Rattle.model.proofs.ReadOrder.{edge, edge-suc}
use Rattle.taskfile.specs.File.{task_of}
use Rattle.taskfile.proofs.Accepted as accepted-file
use Rattle.cacheline.proofs.Below.{all-cached}
use Rattle.pricing.proofs.Pricing.{start_of}
use Rattle.pricing.proofs.Walk.{Known, known-none, known-region, known-block, known_more, known-loads}
use Rattle.pricing.proofs.Walk.{AtEdge, at-start, edges, next-region, next_edge, at_last, at-end}
use Rattle.pricing.proofs.Charging.{Charged, charged-none, charged-few, charged-region, charged-all, mark-tells, charged-more}
use Rattle.pricing.proofs.charge_lines.Goals as goal
use Rattle.pricing.proofs.charge_lines.Goals.{then-whole, else-whole, then-edge_after-i, else-edge_after-i, Joined-edge_after-i}

pub loop-i-init : goal.loop-i-init
loop-i-init c =
    let t = task_of c.args.file.now in
    let ps = c.args.points.now in
    (known-none t, at-start t ps c.args.lines.now c.requires.2, rw c.requires.3 (charged-none t ps))

pub overflow_add-region : goal.overflow_add-region
overflow_add-region c = omega (arith, c.loop-i.invariant.1.index)

-- the region of the block after edge i, and what is known of the lines there
entered : (c : goal.Joined-edge_after-i)
    → let args = c.args in
    let l = c.loop-i in
    let t = task_of args.file.now in
    let ps = c.args.points.now in
    AtEdge t ps args.lines.now l.i c.if-edge_after-i.region c.if-edge_after-i.count l.lines × (l.i < get_or ps c.if-edge_after-i.region (block_count t)) ×
    Known t (edge t l.i) (suc l.i) c.if-edge_after-i.region (start_of t ps c.if-edge_after-i.region) l.held l.since ×
    Charged t ps c.if-edge_after-i.region (edge t l.i) l.charges
entered c =
    let t = task_of c.args.file.now in
    let ps = c.args.points.now in
    let l = c.loop-i in
    let blocks = c.block_count-blocks.ensures.0 in
    let least : 0 < block_count t = omega (arith, c.block_count-blocks.ensures) in
    let end : c.edge_after.result ≡ get_or ps l.region (block_count t) = c.edge_after.ensures ∙ ap (get_or ps l.region) blocks in
    elim c.if-edge_after-i.branch [
      | then-edge_after-i w ↦
          let ends : get_or ps l.region (block_count t) ≡ l.i = sym end ∙ w.if-edge_after-i.true in
          let inside : l.i < block_count t = omega (arith, c.loop-i-test.true) in
          let next = next-region t ps c.args.lines.now least c.requires.1 l.invariant.1 ends inside in
          rw (w.region-is, w.count-is) (
            next.0,
            next.2,
            rw next.1 (known-block (known-region l.invariant.0)),
            charged-region l.invariant.2 l.invariant.1.index ends l.invariant.1.passed (omega arith) next.1,
          )
      | else-edge_after-i w ↦
          let other : get_or ps l.region (block_count t) ≡ l.i → ⊥ = λ e. w.if-edge_after-i.false (end ∙ e) in
          rw (w.region-is, w.count-is) (l.invariant.1, omega (arith, l.invariant.1.end), known-block l.invariant.0, l.invariant.2)
    ]

-- there are at most 64 regions
few : (c : goal.Joined-edge_after-i) → c.if-edge_after-i.region < 64
few c =
    let file = c.args.file.now in
    let at = edges (task_of file) c.args.points.now c.args.lines.now (omega (arith, c.block_count-blocks.ensures)) c.requires.1 (entered c).0 in
    omega (arith, at.0, at.1, at.2, accepted-file.few-blocks file c.requires.0)

pub overflow_add-here : goal.overflow_add-here
overflow_add-here c = omega (arith, few (goal.at.overflow_add-here c).Joined-edge_after-i)

pub overflow_cast-here : goal.overflow_cast-here
overflow_cast-here c = omega (arith, few (goal.at.overflow_cast-here c).Joined-edge_after-i)

pub read_count-reads-requires : goal.read_count-reads-requires
read_count-reads-requires c =
    (c.requires.0, omega arith, omega (arith, accepted-file.block-count c.args.file.now))

pub loop-j-init : goal.loop-j-init
loop-j-init c =
    let at = entered (goal.at.loop-j-init c).Joined-edge_after-i in
    (rw add-zero at.2, at.0.counted ∙ rw add-zero refl, rw add-zero at.3)

pub read-number-requires : goal.read-number-requires
read-number-requires c =
    record { accepted = (c.requires.0, omega arith, omega (arith, accepted-file.block-count c.args.file.now)); j_in_bounds = omega arith }

pub overflow_add-count : goal.overflow_add-count
overflow_add-count c =
    let inner = c.loop-j in
    let args = c.args in
    let t = task_of args.file.now in
    omega (arith, c.loads-loaded.ensures.1, inner.invariant.1, loaded-few t (evicted t) (start_of t args.points.now c.if-edge_after-i.region) (edge t c.loop-i.i + inner.j))

pub overflow_add-charges : goal.overflow_add-charges
overflow_add-charges c =
    let inner = c.loop-j in
    let mark = get_or c.mark_first.new.marks c.slot_of-slot.result.line 0 in
    omega (arith, c.loads-loaded.ensures.1, few (goal.at.overflow_add-charges c).Joined-edge_after-i, charged-few inner.invariant.2 (mark % 32) (omega arith))

pub loop-j-preserved : goal.loop-j-preserved
loop-j-preserved c =
    let inner = c.loop-j in
    let outer = c.loop-i in
    let file = c.args.file.now in
    let t = task_of file in
    let inside-region = (entered (goal.at.loop-j-preserved c).Joined-edge_after-i).0.passed in
    let cache = c.geometry_of-cache in
    let all = c.caches_all-whole in
    let marks = c.mark_first in
    let number = c.read-number in
    let slot = c.slot_of-slot in
    let line = c.slot_of-slot.result.line in
    let taken = c.loop-j-test.true in
    let inside : outer.i < block_count t =
    omega (arith, c.loop-i-test.true, c.block_count-blocks.ensures.0) in
    let reads-are = accepted-file.reads_at file outer.i (omega (arith, accepted-file.block-count file)) in
    let counted : inner.j < length (block_at t outer.i).reads = rw reads-are (omega (arith, taken, c.read_count-reads.ensures.0)) in
    let number_is : get_or (block_at t outer.i).reads inner.j 0 ≡ number.result = rw reads-are (sym number.ensures) in
    let next : edge t outer.i + (inner.j + 1) ≡ suc (edge t outer.i + inner.j) = omega arith in
    let of = slot.ensures.0 t cache.ensures in
    let more =
    known_more t outer.i inner.j number.result inside counted number_is inside-region inner.invariant.0 line slot.result.cached slot.ensures.1 of.lies in
    let read-now : c.if_cached.result ≡ cond slot.result.cached (suc c.if-edge_after-i.region) (get_or inner.since line 0) =
    c.if_cached.ensures ∙ rw add-one refl in
    let most : preempter_count t ≤ 32 = omega (arith, accepted-file.preempter-count file, (accepted-file.accepted file c.requires.0).preempters-most) in
    let marked = marks.ensures.1 line slot.ensures.1 in
    let loads : c.loads-loaded.result
    ≡ bit (evicted t line && slot.result.cached && same_block (get_or inner.held line Empty) (Held number.result) && ltb (get_or inner.since line 0) (suc c.if-edge_after-i.region)) =
    c.loads-loaded.ensures.0 ∙ rw (mark-tells t most line _ marked, add-one) refl in
    rw next (
      elim c.if-whole.branch [
        | then-whole w ↦
            rw w.held-is (more (Held number.result) _ (rw (all-cached t number.result slot.result of (sym (all.ensures t cache.ensures) ∙ w.if-whole.true)) refl) read-now)
        | else-whole w ↦ rw w.held-is (more _ _ w.if_cached-else-whole.ensures read-now)
      ],
      ap₂ ◌+◌ inner.invariant.1 loads ∙
          sym (known-loads t outer.i inner.j number.result inside counted number_is inside-region inner.invariant.0 line slot.result.cached slot.ensures.1 of.lies (evicted t)),
      charged-more t outer.i inner.j number.result inside counted number_is inside-region inner.invariant.2 inner.invariant.0 line slot.result.cached slot.ensures.1 of.lies most _ _
          marked loads,
    )

pub offset_bounds-lines-region : goal.offset_bounds-lines-region
offset_bounds-lines-region c = omega (arith, few (goal.at.offset_bounds-lines-region c).Joined-edge_after-i)

pub bounds-lines-region : goal.bounds-lines-region
bounds-lines-region c = few (goal.at.bounds-lines-region c).Joined-edge_after-i

pub loop-i-preserved : goal.loop-i-preserved
loop-i-preserved c =
    let file = c.args.file.now in
    let t = task_of file in
    let outer = c.loop-i in
    let inner = c.loop-j in
    let inside : outer.i < block_count t = omega (arith, c.loop-i-test.true, c.block_count-blocks.ensures.0) in
    let reads-are = accepted-file.reads_at file outer.i (omega (arith, accepted-file.block-count file)) in
    let whole : length (block_at t outer.i).reads ≡ inner.j =
    rw reads-are (omega (arith, c.loop-j-test.false, c.read_count-reads.ensures.0)) in
    let there : edge t outer.i + inner.j ≡ edge t (suc outer.i) = rw (edge-suc t outer.i inside, whole) refl in
    let at = entered (goal.at.loop-i-preserved c).Joined-edge_after-i in (
      rw (add-one, ← there) inner.invariant.0,
      next_edge t c.args.points.now c.args.lines.now (omega arith) c.requires.1 at.0 inner.count (accepted-file.few-blocks file c.requires.0) at.1 (inner.invariant.1 ∙ rw there refl),
      rw (add-one, ← there) inner.invariant.2,
    )

pub returns : goal.returns
returns c =
    let l = c.loop-i in
    let t = task_of c.args.file.now in
    let ps = c.args.points.now in
    let least : 0 < block_count t = omega (arith, c.block_count-blocks.ensures) in
    let end : l.i ≡ block_count t = omega (arith, c.block_count-blocks.ensures.0) in
    let last = at_last t ps c.args.lines.now least c.requires.1 l.invariant.1 end in
    let ends : get_or ps l.region (block_count t) ≡ l.i = get_or-eq_default ps (block_count t) {n = l.region} (omega arith) ∙ sym end in (
      at-end t ps c.args.lines.now least c.requires.1 l.invariant.1 end,
      charged-all l.invariant.2 l.invariant.1.index ends l.invariant.1.passed (omega arith) last,
    )
