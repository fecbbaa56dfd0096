-- All reads of a task in one list, and where its edges stand in it: edge k comes after the reads of the first k blocks.
-- Assumes nothing.
use Prim.Native.Nat.{ℕ, suc, ◌+◌, ◌-◌, ◌≤◌, ◌<◌}
use mathlib.Core.Path.{◌≡◌, refl, sym, ap, ◌∙◌}
use mathlib.Core.List.{List, [], ◌∷◌, ◌++◌, append_assoc, append-nil}
use native.Mathlib.Omega.{arith}
use lib.ListN.{length, get_or, take, drop, take-append-drop, length-append, get_or-append}
use lib.Seq.{take-add, take-suc, take-length, drop-cons, take-append_seam, get_or-append-add}
use Rattle.model.specs.Task.{Block, Task, block_count, no_block}
use Rattle.model.specs.Lines.{reads_of, block_at}

pub reads-append : (xs ys : List Block) → reads_of (xs ++ ys) ≡ reads_of xs ++ reads_of ys
unfolding reads_of
reads-append [] ys = refl
reads-append (x ∷ xs) ys = ap (λ (l : List ℕ). x.reads ++ l) (reads-append xs ys) ∙ sym (append_assoc x.reads (reads_of xs) (reads_of ys))

abbrev pub all_reads : Task → List ℕ
all_reads t = reads_of t.blocks

abbrev pub edge : Task → ℕ → ℕ
edge t k = length (reads_of (take k t.blocks))

module _ (t : Task) where
  halves : (k : ℕ) → all_reads t ≡ reads_of (take k t.blocks) ++ reads_of (drop k t.blocks)
  halves k = ap reads_of (sym (take-append-drop k t.blocks)) ∙ reads-append (take k t.blocks) (drop k t.blocks)

  pub take-edge : (k : ℕ) → take (edge t k) (all_reads t) ≡ reads_of (take k t.blocks)
  take-edge k = ap (take (edge t k)) (halves k) ∙ take-append_seam (reads_of (take k t.blocks)) (reads_of (drop k t.blocks))

  pub edge-rises : (k l : ℕ) → k ≤ l → edge t k ≤ edge t l
  edge-rises k l h =
      let there : l ≡ k + (l - k) = omega arith in
      rw there
      (rw (take-add k (l - k) t.blocks, reads-append (take k t.blocks) (take (l - k) (drop k t.blocks)))
      (omega (arith, length-append (reads_of (take k t.blocks)) (reads_of (take (l - k) (drop k t.blocks))))))

  pub edge-end : edge t (block_count t) ≡ length (all_reads t)
  edge-end = ap (λ (bs : List Block). length (reads_of bs)) (take-length t.blocks)

  pub edge-suc : (i : ℕ) → i < block_count t → edge t (suc i) ≡ edge t i + length (block_at t i).reads
  unfolding block_at reads_of
  edge-suc i h =
      rw (take-suc t.blocks i no_block h, reads-append (take i t.blocks))
      (rw (length-append (reads_of (take i t.blocks)), append-nil) refl)

  -- the reads after edge i are those of block i + 1 and those after it
  pub reads-from : (i : ℕ) → i < block_count t → reads_of (drop i t.blocks) ≡ (block_at t i).reads ++ reads_of (drop (suc i) t.blocks)
  unfolding block_at reads_of
  reads-from i h = ap reads_of (drop-cons t.blocks i no_block h)

  -- read j of block i + 1
  pub read_at : (i j : ℕ) → i < block_count t → j < length (block_at t i).reads → get_or (all_reads t) (edge t i + j) 0 ≡ get_or (block_at t i).reads j 0
  read_at i j h l =
      ap (λ (xs : List ℕ). get_or xs (edge t i + j) 0) (halves i) ∙ get_or-append-add (reads_of (take i t.blocks)) (reads_of (drop i t.blocks)) j 0 ∙
      ap (λ (xs : List ℕ). get_or xs j 0) (reads-from i h) ∙
      get_or-append (block_at t i).reads (reads_of (drop (suc i) t.blocks)) 0 j l
