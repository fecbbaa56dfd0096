-- The lines of a file's blocks, one by one. Assumes nothing.
use Prim.Native.Nat.{ℕ, suc, ◌+◌, ◌-◌, ◌<◌}
use mathlib.Core.Path.{◌≡◌}
use mathlib.Core.Bool.{Bool, cond}
use mathlib.Core.List.{List, ◌∷◌, ◌++◌}
use native.Mathlib.Omega.{arith}
use lib.ListN.{length, get_or, drop}
use lib.Seq.{drop-cons}
use Rattle.model.specs.Task.{Block, Preempter, no_block, no_preempter, block_count, preempter_count}
use Rattle.model.specs.Lines.{block_at}
use Rattle.taskfile.specs.File.{counts, entry_reads, task_of}
use Rattle.taskfile.proofs.Accepted.{block-count, preempter-count, reads_at, preempter-reads-at}
use Rattle.showing.specs.Text.{armed_word, block_word, preempter_word, line_text, block_text, blocks_text, preempter_text, preempters_text}

-- the blocks from one on
pub blocks-next : (bs : List Block) (i : ℕ) → i < length bs → blocks_text (drop i bs) ≡ block_text (get_or bs i no_block) ++ blocks_text (drop (suc i) bs)
unfolding blocks_text
blocks-next bs i h = rw (drop-cons bs i no_block h)

pub preempters-next : (ps : List Preempter) (i : ℕ) → i < length ps
    → preempters_text (drop i ps) ≡ preempter_text (get_or ps i no_preempter) ++ preempters_text (drop (suc i) ps)
unfolding preempters_text
preempters-next ps i h = rw (drop-cons ps i no_preempter h)

module _ (file : List ℕ) (i : ℕ) where
  -- a basic block's line, by what is read of block i + 1
  pub block-line : (time : ℕ) (armed : Bool) → i < block_count (task_of file)
      → time ≡ (block_at (task_of file) (i + 1 - 1)).time → armed ≡ (block_at (task_of file) (i + 1 - 1)).armed
      → block_text (block_at (task_of file) i) ≡ line_text (cond armed armed_word block_word) (time ∷ entry_reads file (i + 1))
  unfolding block_text
  block-line time armed h t a =
      let same : i + 1 - 1 ≡ i = omega arith in
      let inside : i < (counts file).blocks = omega (arith, block-count file) in
      rw (t, a, same, ← reads_at file i inside)

  -- a preempter's line
  pub preempter-line : (id : ℕ) → i < preempter_count (task_of file) → id ≡ (get_or (task_of file).preempters i no_preempter).id
      → preempter_text (get_or (task_of file).preempters i no_preempter) ≡ line_text preempter_word (id ∷ entry_reads file (1 + block_count (task_of file) + i))
  unfolding preempter_text
  preempter-line id h e =
      let inside : i < (counts file).preempters = omega (arith, preempter-count file) in
      rw (e, block-count file, ← preempter-reads-at file i inside)
