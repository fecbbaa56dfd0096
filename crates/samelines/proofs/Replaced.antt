-- A file with other preempters in place of its own: it is accepted, its task is the file's with them, and so its first blocks are the same bytes.
-- Assumes nothing.
use Prim.Native.Nat.{ℕ, zero, suc, ◌+◌, ◌≤◌}
use mathlib.Core.Path.{◌≡◌, sym, ap, ◌∙◌}
use mathlib.Core.List.{List}
use native.Mathlib.Omega.{arith}
use lib.ListN.{length}
use Rattle.model.specs.Task.{Block, Preempter, Task, with_preempters}
use Rattle.model.specs.Lines.{block_at}
use Rattle.block.specs.Bytes.{Sized, packed, Each}
use Rattle.block.specs.Blocks.{numbered, sealed}
use Rattle.taskfile.specs.File.{block_in, counts, basic_of, task_of, task_numbers, basic_bytes, file_of, header_in_range, EntryWithin, Within}
use Rattle.taskfile.proofs.Accepted.{AcceptedFile, accepted, block-count, block-at}
use Rattle.taskfile.proofs.Files.{accepted-within, first_block, basic-block}
use Rattle.taskfile.proofs.Tasks.{file-then-task}
use Rattle.samelines.specs.Statements.{Replaced}

-- M is all that a header says of the preempters
header-same : (t : Task) (ps : List Preempter) → length ps ≡ length t.preempters → task_numbers (with_preempters t ps) ≡ task_numbers t
header-same t ps e = rw e

within : (t : Task) (ps : List Preempter) → Within t → length ps ≡ length t.preempters → Each (λ p. EntryWithin p.id p.reads) ps
    → Within (with_preempters t ps)
unfolding header_in_range
within t ps w e fit = record { in-range = rw e w.in-range; numbers = rw (header-same t ps e) w.numbers; blocks = w.blocks; preempters = fit }

-- two accepted files whose headers have the same numbers and whose basic blocks are the same
module _ (file other : List ℕ) (a : AcceptedFile file) (b : AcceptedFile other) where
  blocks-same : task_numbers (task_of file) ≡ task_numbers (task_of other) → (task_of file).blocks ≡ (task_of other).blocks → (k : ℕ) → k ≤ (counts file).blocks
      → block_in file k ≡ block_in other k
  unfolding block_at
  blocks-same e f zero h = first_block file a ∙ ap (λ (ns : List Sized). sealed (numbered 0 (packed ns))) e ∙ sym (first_block other b)
  blocks-same e f (suc i) h =
      let n : (counts file).blocks ≡ (counts other).blocks = sym (block-count file) ∙ ap length f ∙ block-count other in
      let same : basic_of (block_in file (1 + i)) ≡ basic_of (block_in other (1 + i)) =
      sym (block-at file i (omega arith)) ∙ rw f (block-at other i (omega arith)) in
      let one : suc i ≡ 1 + i = omega arith in
      rw one
      (basic-block file a (1 + i) (omega arith) (omega arith) ∙ ap (λ (x : Block). sealed (numbered (1 + i) (basic_bytes x))) same ∙
      sym (basic-block other b (1 + i) (omega arith) (omega arith)))

pub replaced : Replaced
replaced file ps e count fit same =
    let t : Task = task_of file in
    let u : Task = with_preempters t ps in
    let made = file-then-task u (within t ps (accepted-within file e) count fit) in
    record {
      accepted = e;
      other-accepted = made.0;
      blocks = blocks-same file (file_of u) (accepted file e) (accepted (file_of u) made.0)
          (sym (header-same t ps count) ∙ ap task_numbers (sym made.1))
          (ap (λ (x : Task). x.blocks) (sym made.1));
      touched = λ c. search (same c, made.1);
    }
