-- `reuse::first_lines_in` meets its contract. The loop's invariant: the reads passed are noted.
use Prim.Native.Nat.{ℕ, ◌+◌}
use mathlib.Core.Path.{◌≡◌, sym, ap, ◌∙◌}
use mathlib.Core.List.{[], ◌∷◌, ◌++◌}
use native.Mathlib.Numerals.{add-one}
use native.Mathlib.Omega.{arith}
use lib.ListN.{take}
use lib.Seq.{take-suc, take_all}
use Rattle.taskfile.specs.File.{task_of, entry_reads}
use Rattle.reuse.proofs.FirstReads.{noted-none, noted_one, noted-append}
use Rattle.reuse.proofs.first_lines_in.Goals as goal

pub loop-j-init : goal.loop-j-init
loop-j-init c =
    noted-none _ c.requires.first_len c.empty-lines.ensures

pub loop-j-preserved : goal.loop-j-preserved
loop-j-preserved c =
    let l = c.loop-j in
    let t = task_of c.args.file.now in
    let xs = entry_reads c.args.file.now c.args.k in
    let number = c.read-number in
    let line = c.line_of in
    let after = c.note-lines.ensures in
    let taken = c.loop-j-test.true in
    let counted = c.read_count-reads.ensures in
    let more : take (l.j + 1) xs ≡ take l.j xs ++ (number.result ∷ []) =
    rw add-one (take-suc xs l.j 0 (omega (arith, taken, counted))) ∙ ap (λ (x : ℕ). take l.j xs ++ (x ∷ [])) (sym number.ensures) in
    rw more
    (noted-append t (take l.j xs) (number.result ∷ []) c.note-lines.ensures.by_index_2 l.invariant
    (noted_one t number.result line.result (line.ensures.0 t c.requires.geometry_of) c.note-lines.ensures.first_len c.note-lines.ensures.by_index))

pub returns : goal.returns
returns c =
    let l = c.loop-j in
    rw (take_all l.j (entry_reads c.args.file.now c.args.k) (omega arith)) at l.invariant
