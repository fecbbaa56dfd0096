-- `reuse::mark_reads` meets its contract. The loop's invariant: the lines of the reads passed are
-- marked. Without a scratch range each read is on its line.
use Prim.Native.Nat.{ℕ, ◌+◌, ◌<◌}
use mathlib.Core.Path.{◌≡◌, refl, sym, ap, ◌∙◌}
use mathlib.Core.Bool.{Bool, true, false, cond, ◌&&◌, ◌||◌}
use mathlib.Core.List.{List}
use native.Mathlib.Omega.{arith}
use lib.Dec.{eqb}
use lib.ListN.{length, get_or, set, take, length-set}
use lib.Seq.{take_all}
use Rattle.model.specs.Task.{Task}
use Rattle.model.specs.Lines.{on_line, any_read}
use Rattle.model.proofs.LineStates.{any-take}
use Rattle.model.proofs.Histories.{LiesOn}
use Rattle.taskfile.specs.File.{task_of, entry_reads}
use Rattle.cacheline.proofs.Below.{all-cached}
use Rattle.reuse.proofs.Marks.{one-mark-if, any-default}
use Rattle.reuse.proofs.mark_reads.Goals as goal
use Rattle.reuse.proofs.mark_reads.Goals.{then-whole, else-whole}
use Rattle.reuse.proofs.mark_reads.Invariants.{Marked}

twice : {A : Type 0} (a b : Bool) (n x : A) → cond b n (cond a n x) ≡ cond (a || b) n x
twice true true n x = refl
twice true false n x = refl
twice false b n x = refl

marked_more : {A : Type 0} (t : Task) (xs : List ℕ) (n : A) (marks₀ marks : List A) (j m line : ℕ) (on : Bool) (v : A) → j < length xs → m ≡ get_or xs j 0 → LiesOn t m line on → line < 512
    → v ≡ cond on n (get_or marks line n) → Marked t xs n marks₀ j marks → Marked t xs n marks₀ (j + 1) (set marks line v)
marked_more t xs n marks₀ marks j m line on v hj em at low is k = (
  length-set marks line v ∙ k.0,
  λ d h.
      let more : (any_read (on_line t d) (take j xs) || eqb d line && on) ≡ any_read (on_line t d) (take (j + 1) xs) = rw (← at d, em) (sym (any-take (on_line t d) xs j hj)) in
      one-mark-if marks line d n on v (omega (arith, k.0)) is ∙ ap (cond (eqb d line && on) n) (k.1 d h) ∙
      twice (any_read (on_line t d) (take j xs)) (eqb d line && on) n (get_or marks₀ d n) ∙ ap (λ (b : Bool). cond b n (get_or marks₀ d n)) more,
)

pub loop-j-init : goal.loop-j-init
unfolding any_read
loop-j-init g c = (c.requires.marks_len, λ d h. refl)

pub loop-j-preserved : goal.loop-j-preserved
loop-j-preserved g c =
    let l = c.loop-j in
    let whole = c.caches_all-whole in
    let t = task_of c.args.file.now in
    let slot = c.slot_of-slot in
    let of = slot.ensures.0 t c.requires.geometry_of in
    let number = c.read in
    let more = marked_more t (entry_reads c.args.file.now c.args.k) c.args.mark c.args.marks.now l.marks l.j number.result slot.result.line
    slot.result.cached in
    elim c.if-whole.branch [
      | then-whole w ↦
          let on = all-cached t number.result slot.result of (sym (whole.ensures t c.requires.geometry_of) ∙ w.if-whole.true) in
          rw w.marks-is (more c.args.mark (omega arith) number.ensures of.lies slot.ensures.1 (rw on refl) l.invariant)
      | else-whole w ↦ rw w.marks-is (more _ (omega arith) number.ensures of.lies slot.ensures.1
          (w.if_cached.ensures ∙ ap (cond slot.result.cached c.args.mark) (any-default l.marks slot.result.line _ c.args.mark (omega (arith, l.invariant.0, slot.ensures.1))))
          l.invariant)
    ]

pub returns : goal.returns
returns g c =
    let l = c.loop-j in record {
      marks_len_2 = l.invariant.0;
      marked_by = λ d h.
          l.invariant.1 d h ∙
          ap (λ (xs : List ℕ). cond (any_read (on_line (task_of c.args.file.now) d) xs) c.args.mark (get_or c.args.marks.now d c.args.mark))
          (take_all l.j (entry_reads c.args.file.now c.args.k) (omega arith));
    }
