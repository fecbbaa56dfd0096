-- `reuse::search_from` meets its contract. The loop's invariant: none of the reads of the blocks passed lies on the line.
use Prim.Native.Nat.{ℕ, ◌+◌, ◌<◌}
use mathlib.Core.Path.{◌≡◌, refl, sym, ap, ◌∙◌}
use mathlib.Core.List.{List, ◌++◌}
use native.Mathlib.Omega.{arith}
use native.Mathlib.Numerals.{add-one}
use lib.ListN.{drop, drop_of_length-le}
use Rattle.model.specs.Task.{block_count}
use Rattle.model.specs.Lines.{on_line, reads_of, next_read, reads_looked_at}
use Rattle.model.proofs.ReadOrder.{reads-from}
use Rattle.taskfile.specs.File.{task_of, entry_reads}
use Rattle.taskfile.proofs.Accepted as accepted-file
use Rattle.reuse.proofs.Looked.{left-all, left_passed, left-found, left-none}
use Rattle.reuse.proofs.search_from.Goals as goal

-- the reads after edge i, those of the file's block i + 1 first
block-next : (file : List ℕ) (i : ℕ) → i < block_count (task_of file) → reads_of (drop i (task_of file).blocks) ≡ entry_reads file (i + 1) ++ reads_of (drop (i + 1) (task_of file).blocks)
block-next file i h = reads-from (task_of file) i h ∙ rw (accepted-file.reads_at file i (omega (arith, accepted-file.block-count file)), ← add-one i) refl

pub loop-i-init : goal.loop-i-init
loop-i-init c = (omega arith, left-all _ _)

pub search_block-found-requires-clause-accepted : goal.search_block-found-requires-clause-accepted
search_block-found-requires-clause-accepted c =
    (c.requires.0, omega arith, omega (arith, accepted-file.block-count c.args.file.now))

pub returns-in-Some : goal.returns-in-Some
unfolding next_read reads_looked_at
returns-in-Some c =
    let t = task_of c.args.file.now in
    let l = c.loop-i in
    let block = c.search_block-found in
    let there =
    left-found (on_line t c.args.c) l.invariant.1 (entry_reads c.args.file.now (l.i + 1)) (reads_of (drop (l.i + 1) t.blocks))
    (block-next c.args.file.now l.i (omega arith)) c.in-Some.number (sym c.search_block-found.ensures.next_value ∙ c.in-Some.is) in
    record { next_value = sym there.0; looked_value = omega (arith, there.1, c.search_block-found.ensures.looked_value.0) }

pub loop-i-preserved : goal.loop-i-preserved
loop-i-preserved c =
    let t = task_of c.args.file.now in
    let l = c.loop-i in
    let block = c.search_block-found in (
      omega arith,
      rw c.search_block-found.ensures.looked_value.0
          (left_passed (on_line t c.args.c) l.invariant.1 (entry_reads c.args.file.now (l.i + 1)) (reads_of (drop (l.i + 1) t.blocks))
          (block-next c.args.file.now l.i (omega arith)) (sym c.search_block-found.ensures.next_value ∙ c.in_default.is)),
    )

pub returns : goal.returns
unfolding next_read reads_looked_at reads_of
returns c =
    let t = task_of c.args.file.now in
    let l = c.loop-i in
    let done = left-none (on_line t c.args.c) (ap reads_of (drop_of_length-le t.blocks {i = l.i} (omega arith))) l.invariant.1 in
    record { next_value = sym done.0; looked_value = sym done.1 }
