-- `reuse::note_block` meets its contract. The loop's invariant: the lines of the reads passed have a reader.
use Rattle.std.specs.Prelude.{Option}
use Prim.Native.Nat.{ℕ, ◌+◌, ◌<◌}
use mathlib.Core.Path.{◌≡◌, refl, sym, ap, ◌∙◌}
use mathlib.Core.Bool.{Bool, cond, ◌&&◌, ◌||◌, and-false}
use mathlib.Core.List.{List}
use native.Mathlib.Omega.{arith}
use lib.Dec.{eqb}
use lib.ListN.{length, get_or, take}
use lib.Seq.{take_all}
use Rattle.model.specs.Task.{Task}
use Rattle.model.specs.Lines.{line_of, is_line, on_line, any_read}
use Rattle.model.proofs.LineStates.{any-take}
use Rattle.taskfile.specs.File.{task_of, entry_reads}
use Rattle.taskfile.proofs.Accepted as accepted-file
use Rattle.reuse.specs.States.{FirstBy}
use Rattle.reuse.proofs.Readers.{first-by-both}
use Rattle.reuse.proofs.note_block.Goals as goal
use Rattle.reuse.proofs.note_block.Invariants.{Noted}

noted_more : (t : Task) (xs : List ℕ) (n : ℕ) (readers₀ readers readers' : List ℕ) (j m : ℕ) (mapping : Option ℕ) → j < length xs → m ≡ get_or xs j 0
    → mapping ≡ line_of t m → length readers' ≡ 512 → FirstBy (λ d. is_line d mapping) n readers readers' → Noted t xs n readers₀ j readers
    → Noted t xs n readers₀ (j + 1) readers'
unfolding on_line
noted_more t xs n readers₀ readers readers' j m mapping hj em el long readers-are k = (
  long,
  λ d h.
      let more : (any_read (on_line t d) (take j xs) || is_line d mapping) ≡ any_read (on_line t d) (take (j + 1) xs) = rw (el, em) (sym (any-take (on_line t d) xs j hj)) in
      readers-are d h ∙ ap (λ (x : ℕ). cond (eqb x 0 && is_line d mapping) n x) (k.1 d h) ∙
      first-by-both (any_read (on_line t d) (take j xs)) (is_line d mapping) n (get_or readers₀ d 0) ∙
      ap (λ (b : Bool). cond (eqb (get_or readers₀ d 0) 0 && b) n (get_or readers₀ d 0)) more,
)

pub loop-j-init : goal.loop-j-init
unfolding any_read
loop-j-init c = (c.requires.readers_len, λ d h. rw and-false refl)

pub overflow_cast-k : goal.overflow_cast-k
overflow_cast-k c =
    omega (arith, (accepted-file.accepted c.args.file.now c.requires.accepted.0).blocks-most, c.requires.accepted.2)

pub loop-j-preserved : goal.loop-j-preserved
loop-j-preserved c =
    let l = c.loop-j in
    let line = c.line_of-mapping in
    let number = c.read in
    noted_more (task_of c.args.file.now) (entry_reads c.args.file.now c.args.k) c.args.k c.args.readers.now l.readers c.note_reader.new.readers l.j
    number.result line.result (omega arith) number.ensures (line.ensures.0 (task_of c.args.file.now) c.requires.geometry_of) c.note_reader.ensures.readers_len c.note_reader.ensures.first_by
    l.invariant

pub returns : goal.returns
returns c =
    let l = c.loop-j in record {
      readers_len_2 = l.invariant.0;
      first_by = λ d h.
          l.invariant.1 d h ∙
          ap (λ (xs : List ℕ). cond (eqb (get_or c.args.readers.now d 0) 0 && any_read (on_line (task_of c.args.file.now) d) xs) c.args.k (get_or c.args.readers.now d 0))
          (take_all l.j (entry_reads c.args.file.now c.args.k) (omega arith));
    }
