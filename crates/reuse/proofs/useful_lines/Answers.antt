-- `reuse::useful_lines` meets its contract. The loop's invariant: the set is the useful lines below
-- c, and the readers are noted up to block b. No line beyond the cache is useful.
use Prim.Native.Nat.{ℕ, ◌-◌, ◌≤◌, ◌<◌}
use mathlib.Core.Path.{◌≡◌, refl, sym, ap, ◌∙◌}
use mathlib.Core.Bool.{Bool, false, ◌&&◌, ◌||◌, or-false, and-false}
use mathlib.Core.Logic.{by_cases}
use native.Mathlib.Decide.{dec_lt}
use native.Mathlib.Omega.{arith}
use lib.Dec.{eqb, ltb}
use lib.ListN.{get_or, get_or-replicate}
use borrow.Author.Tests.{lt-ltb, le-ltb}
use Rattle.model.specs.Lines.{same_block, next_read, useful}
use Rattle.model.specs.declared.Line.TheVariants.{Held}
use Rattle.model.proofs.LineStates.{useful-beyond}
use Rattle.taskfile.specs.File.{task_of}
use Rattle.reuse.specs.States.{first_reader, edge_before}
use Rattle.reuse.proofs.Below.{one_more}
use Rattle.reuse.proofs.Readers.{edge-within, noted-useful, empty-useless}
use Rattle.reuse.proofs.useful_lines.Goals as goal
use Rattle.reuse.proofs.useful_lines.Goals.{in-Empty, in-Held}

pub loop-c-init : goal.loop-c-init
unfolding first_reader
loop-c-init c =
    let none : c.args.k - c.args.k ≡ 0 = omega arith in (
      omega arith,
      c.requires.1,
      refl,
      λ d h. rw none (get_or-replicate 512 d 0 0 h),
      λ d. c.empty-lines.ensures d ∙ rw (le-ltb d 0 (omega arith)) refl,
    )

-- the edge before the first reader that is noted
pub is_next-requires : goal.is_next-requires
is_next-requires c =
    let l = c.loop-c in
    let noted = c.note_until-b.ensures.noted_to in
    let edge-is =
    c.edge_before-edge.ensures ∙ ap (λ (n : ℕ). edge_before n (get_or c.note_until-b.new.readers l.c 0)) c.block_count-blocks.ensures.0 in
    let within = edge-within (task_of c.args.file.now) l.c c.note_until-b.new.readers (omega (arith, l.invariant.0, noted.from)) noted.to
    (omega (arith, c.geometry_of-cache.ensures.sound.most)) (noted.noted c.args.k l.invariant.0 l.invariant.3) in
    (c.requires.0, rw edge-is within, c.geometry_of-cache.ensures)

pub loop-c-preserved : goal.loop-c-preserved
loop-c-preserved c =
    let l = c.loop-c in
    let t = task_of c.args.file.now in
    let k = c.args.k in
    let held = c.held_after-held in
    let below : l.c < 512 = omega (arith, c.geometry_of-cache.ensures.sound.most) in
    let holds = held.ensures.1 l.c below in
    elim c.match-held-c.branch [
      | in-Empty w ↦
          let none : useful t k l.c ≡ false = empty-useless t k l.c (sym w.in-Empty.is ∙ holds) in
          rw (w.readers-is, w.b-is, w.lines-is) (
            l.invariant.0,
            l.invariant.1,
            l.invariant.2,
            l.invariant.3,
            λ d. l.invariant.4 d ∙ sym (or-false _) ∙ ap (λ (x : Bool). ltb d l.c && useful t k d || x) (sym (rw none (and-false (eqb d l.c)))) ∙ one_more (useful t k) l.c d,
          )
      | in-Held w ↦
          let note = w.note_until-b in
          let noted = note.ensures.noted_to in
          let from : k ≤ note.result = omega (arith, l.invariant.0, noted.from) in
          let readers-are = noted.noted k l.invariant.0 l.invariant.3 in
          let edge-is = w.edge_before-edge.ensures ∙ ap (λ (n : ℕ). edge_before n (get_or note.new.readers l.c 0)) c.block_count-blocks.ensures.0 in
          let here : w.is_next.result ≡ useful t k l.c =
          w.is_next.ensures ∙ ap (λ (e : ℕ). same_block (Held w.in-Held.number) (next_read t e l.c)) edge-is ∙
          noted-useful t l.c note.new.readers from noted.to below readers-are w.in-Held.number (sym w.in-Held.is ∙ holds) note.ensures.settled in
          rw (w.readers-is, w.b-is, w.lines-is) (
            from,
            noted.to,
            noted.long,
            readers-are,
            λ d.
                w.with_marked-lines.ensures d ∙ ap (λ (x : Bool). x || eqb d l.c && w.is_next.result) (l.invariant.4 d) ∙
                ap (λ (x : Bool). ltb d l.c && useful t k d || eqb d l.c && x) here ∙ one_more (useful t k) l.c d,
          )
    ]

pub returns : goal.returns
returns c =
    let l = c.loop-c in
    let cache = c.geometry_of-cache in
    let t = task_of c.args.file.now in
    let of = c.geometry_of-cache.ensures in
    λ d.
    l.invariant.4 d ∙
    by_cases (dec_lt d cache.result.line_count) (λ h. rw (lt-ltb d l.c (omega arith)) refl)
    (λ h. rw (le-ltb d l.c (omega arith)) (sym (useful-beyond t (omega (arith, of.sound.some, of.count)) d (omega (arith, of.count)) c.args.k)))
