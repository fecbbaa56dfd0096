-- `reuse::mark_first` meets its contract. The loop's invariant: a line is marked with the first of the preempters passed, from index i on, that touches
-- it.
use Prim.Native.Nat.{ℕ, suc, ◌+◌, ◌-◌}
use mathlib.Core.Path.{◌≡◌, refl, ap, ap₂, ◌∙◌}
use mathlib.Core.Bool.{Bool, true, false, not, cond}
use mathlib.Core.List.{List}
use native.Mathlib.Omega.{arith}
use lib.ListN.{get_or-replicate}
use Rattle.model.specs.Lines.{on_line, any_read}
use Rattle.model.specs.Lists.{lowest_from}
use Rattle.model.specs.Charges.{touches, first_touching}
use Rattle.taskfile.specs.File.{counts, task_of, entry_reads}
use Rattle.taskfile.proofs.Accepted as accepted-file
use Rattle.reuse.specs.States.{mark_of}
use Rattle.reuse.proofs.Marks.{marked-number}
use Rattle.reuse.proofs.mark_first.Goals as goal

-- one preempter more, before the others
one-before : (f : ℕ → Bool) (k i n m : ℕ) (b : Bool) → i ≡ suc k → m ≡ suc n → f k ≡ not b → cond b k (mark_of (lowest_from f i n)) ≡ mark_of (lowest_from f k m)
unfolding lowest_from
one-before f k i n m true next more e = rw (more, e)
one-before f k i n m false next more e = rw (next, more, e)

pub loop-i-init : goal.loop-i-init
unfolding lowest_from
loop-i-init c =
    let file = c.args.file.now in
    let all : c.preempter_count-i.result ≡ (counts file).preempters = omega (arith, accepted-file.preempter-count file) in
    let none : (counts file).preempters - (counts file).preempters ≡ 0 = omega arith in
    rw (c.requires.0, all) (omega arith, refl, λ d h. rw none (get_or-replicate 512 d 32 0 (omega arith)))

pub overflow_add-start-in-loop-i : goal.overflow_add-start-in-loop-i
overflow_add-start-in-loop-i c = omega (arith, (accepted-file.accepted c.args.file.now c.requires.1).preempters-most)

pub overflow_cast-i : goal.overflow_cast-i
overflow_cast-i c = omega (arith, (accepted-file.accepted c.args.file.now c.requires.1).preempters-most)

pub mark_reads-requires : goal.mark_reads-requires
mark_reads-requires c = (
  omega arith,
  (
    c.loop-i.invariant.1,
    ((c.requires.1, omega arith, omega (arith, c.loop-i.invariant.0, accepted-file.block-count c.args.file.now)), c.requires.2),
  ),
)

pub loop-i-preserved : goal.loop-i-preserved
unfolding touches
loop-i-preserved c =
    let file = c.args.file.now in
    let t = task_of file in
    let l = c.loop-i in
    let k = l.i - 1 in
    let n = (counts file).preempters in
    let from : c.block_count-start.result + 1 + k ≡ 1 + (counts file).blocks + k = omega (arith, accepted-file.block-count file) in (
      omega (arith, l.invariant.0),
      c.mark_reads.ensures.marks_len_2,
      λ d h.
          let reads = ap (λ (xs : List ℕ). any_read (on_line t d) xs) (accepted-file.preempter-reads-at file k (omega (arith, l.invariant.0))) in
          marked-number l.marks c.mark_reads.new.marks d k _ (omega (arith, l.invariant.1)) (omega (arith, c.mark_reads.ensures.marks_len_2)) (c.mark_reads.ensures.marked_by d h) ∙ ap₂ (λ (n x : ℕ). cond (any_read (on_line t d) (entry_reads file n)) k x) from (l.invariant.2 d h) ∙
          one-before (λ i. not (touches t i d)) k l.i (n - l.i) (n - k) (any_read (on_line t d) (entry_reads file (1 + (counts file).blocks + k))) (omega arith)
          (omega (arith, l.invariant.0)) (ap not reads),
    )

pub returns : goal.returns
unfolding first_touching
returns c =
    let file = c.args.file.now in
    let l = c.loop-i in
    let first : l.i ≡ 0 = omega arith in
    let all : (counts file).preempters - 0 ≡ (counts file).preempters = omega arith in (
      l.invariant.1,
      λ d h. l.invariant.2 d h ∙ rw (first, all, accepted-file.preempter-count file) refl,
    )
