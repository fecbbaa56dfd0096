-- `reuse::mark_evicted` meets its contract. The loop's invariant: a line is marked if a preempter block passed reads it.
use Prim.Native.Nat.{ℕ, ◌+◌, ◌-◌, ◌≤◌}
use mathlib.Core.Path.{◌≡◌, refl, sym, ap, ◌∙◌}
use mathlib.Core.Bool.{Bool, false, ◌||◌}
use mathlib.Core.Logic.{by_cases}
use native.Mathlib.Decide.{dec_lt}
use native.Mathlib.Omega.{arith}
use lib.ListN.{get_or-replicate, get_or-eq_default}
use Rattle.model.specs.Lines.{on_line, any_read, evicted}
use Rattle.model.proofs.LineStates.{any_append, evicted-beyond}
use Rattle.taskfile.specs.File.{counts, task_of, entry_reads}
use Rattle.taskfile.proofs.Accepted.{reads_between, between_more, preempter-reads}
use Rattle.taskfile.proofs.Accepted as accepted-file
use Rattle.reuse.proofs.Marks.{marked-true}
use Rattle.reuse.proofs.mark_evicted.Goals as goal

pub loop-k-init : goal.loop-k-init
unfolding reads_between any_read
loop-k-init c =
    let none : c.block_count-first.result + 1 - (c.block_count-first.result + 1) ≡ 0 = omega arith in
    rw c.requires.0 (refl, λ d h. rw none (get_or-replicate 512 d false false (omega arith)))

pub mark_reads-requires : goal.mark_reads-requires
mark_reads-requires c =
    let file = c.args.file.now in (
      omega arith,
      (
        c.loop-k.invariant.0,
        ((c.requires.1, omega arith, omega (arith, accepted-file.block-count file, accepted-file.preempter-count file)), c.requires.2),
      ),
    )

pub loop-k-preserved : goal.loop-k-preserved
loop-k-preserved c =
    let file = c.args.file.now in
    let first = c.block_count-first.result + 1 in
    let l = c.loop-k in
    let more : l.k + 1 - first ≡ l.k - first + 1 = omega arith in
    let there : first + (l.k - first) ≡ l.k = omega arith in (
      c.mark_reads.ensures.marks_len_2,
      λ d h.
          marked-true l.marks c.mark_reads.new.marks d _ (omega (arith, l.invariant.0)) (omega (arith, c.mark_reads.ensures.marks_len_2)) (c.mark_reads.ensures.marked_by d h) ∙ ap (λ (x : Bool). x || any_read (on_line (task_of file) d) (entry_reads file l.k)) (l.invariant.1 d h) ∙
          sym (rw (more, between_more file first (l.k - first), any_append, there) refl),
    )

pub returns : goal.returns
unfolding evicted
returns c =
    let file = c.args.file.now in
    let of = c.requires.2 in
    let l = c.loop-k in
    let first = c.block_count-first.result + 1 in
    let all : l.k - first ≡ (counts file).preempters = omega (arith, accepted-file.preempter-count file) in
    let from : first ≡ 1 + (counts file).blocks = omega (arith, accepted-file.block-count file) in
    let beyond : (d : ℕ) → 512 ≤ d → evicted (task_of file) d ≡ false =
    λ d h. evicted-beyond (task_of file) (omega (arith, of.sound.some, of.count)) d (omega (arith, of.sound.most, of.count)) in record {
      marks_len = l.invariant.0;
      by_index = λ d.
          by_cases (dec_lt d 512) (λ h. l.invariant.1 d h ∙ rw (all, from, ← preempter-reads file) refl)
          (λ h. get_or-eq_default l.marks false {n = d} (omega (arith, l.invariant.0)) ∙ sym (beyond d (omega arith)));
    }
