-- An accepted file is the bytes of its task, and its task is within the limits.
-- Assumes nothing.
use mathlib.Core.Bool.{and-eq-true_iff}
use Prim.Native.Nat.{ℕ, zero, suc, ◌+◌, ◌*◌, ◌<◌, ◌≤◌}
use mathlib.Core.Path.{◌≡◌, refl, sym, ap}
use mathlib.Core.List.{List, [], ◌∷◌, ◌++◌, map, append_assoc}
use native.Mathlib.Nat.{add-zero, add-suc, suc-add}
use native.Mathlib.Omega.{arith}
use lib.Dec.{leb}
use lib.ListN.{length, take, drop}
use lib.Seq.{take_all, take-add, drop-drop}
use borrow.Author.Tests.{le-leb, lt-leb}
use Rattle.model.specs.Sets.{bit}
use Rattle.model.specs.Task.{Task}
use Rattle.block.specs.Bytes.{AllBytes, InWidth, packed, les, field, Each}
use Rattle.block.specs.Blocks.{numbered, sealed}
use Rattle.block.proofs.Bytes.{bytes_drop, bytes_take, bytes-append, bytes-les, field_below, length_fields, fields-below}
use Rattle.block.proofs.Each.{each_append, all_map}
use Rattle.block.proofs.Packing.{packed-bytes, unpacked, unpacked-fits}
use Rattle.block.proofs.Blocks.{block-is, sealed-bytes}
use Rattle.taskfile.specs.File.{block_in, counts, reads_in, basic_of, preempter_of, collect, header_of, task_of, header_numbers, task_numbers, entry_bytes, basic_bytes, preempter_bytes, named_bytes, whole_blocks, basic_blocks, preempter_blocks, file_of, header_in_range, header_right, entry_right, block_right, EntryWithin, Within}
use Rattle.taskfile.specs.Statements.{TaskThenFile, AcceptedWithin}
use Rattle.taskfile.proofs.Accepted.{AcceptedFile, accepted, length-collect, block-count, preempter-count}

-- whole blocks

pub whole_append : (k : ℕ) (xs ys : List (List ℕ)) → whole_blocks k (xs ++ ys) ≡ whole_blocks k xs ++ whole_blocks (k + length xs) ys
unfolding whole_blocks
whole_append k [] ys = rw add-zero
whole_append k (x ∷ xs) ys = rw (whole_append (suc k) xs ys, add-suc, ← suc-add, append_assoc)

map-collect : {A B : Type 0} (g : A → B) (f : ℕ → A) (a n : ℕ) → map g (collect f a n) ≡ collect (λ k. g (f k)) a n
unfolding collect
map-collect g f a zero = refl
map-collect g f a (suc n) = ap (λ (r : List _). g (f a) ∷ r) (map-collect g f (suc a) n)

-- the n blocks from k are the bytes from block k on, where each block is as it was named
whole_in : (file : List ℕ) (g : ℕ → List ℕ) (k n : ℕ) → ((i : ℕ) → k ≤ i → i < k + n → block_in file i ≡ sealed (numbered i (g i)))
    → whole_blocks k (collect g k n) ≡ take (512 * n) (drop (512 * k) file)
unfolding whole_blocks collect block_in
whole_in file g k zero h = refl
whole_in file g k (suc n) h =
    let next : 512 * suc k ≡ 512 * k + 512 = omega arith in
    let more : 512 * suc n ≡ 512 + 512 * n = omega arith in
    let later = whole_in file g (suc k) n (λ i l u. h i (omega arith) (omega arith)) in
    rw (← h k (omega arith) (omega arith), later, next, more, take-add 512 (512 * n), drop-drop)

three-parts : (bs : List ℕ) (n m : ℕ) → length bs ≡ 512 * (1 + n + m)
    → take 512 bs ++ (take (512 * n) (drop 512 bs) ++ take (512 * m) (drop (512 * (1 + n)) bs)) ≡ bs
three-parts bs n m l =
    let s : 512 * (1 + n) ≡ 512 + 512 * n = omega arith in
    rw (s, ← drop-drop (512 * n) 512 bs, ← take-add (512 * n) (512 * m) (drop 512 bs), ← take-add 512 (512 * n + 512 * m) bs)
    (take_all (512 + (512 * n + 512 * m)) bs (omega arith))

module _ (file : List ℕ) (a : AcceptedFile file) where
  pub first_block : block_in file 0 ≡ sealed (numbered 0 (packed (task_numbers (task_of file))))
  unfolding header_right
  first_block =
      block-is 0 (packed (task_numbers (task_of file))) (block_in file 0) (a.checksums 0 (omega arith))
      ((and-eq-true_iff (header_in_range (task_of file)) _).0 a.header-right).1

  pub basic-block : (k : ℕ) → 1 ≤ k → k < 1 + (counts file).blocks → block_in file k ≡ sealed (numbered k (basic_bytes (basic_of (block_in file k))))
  unfolding block_right entry_right basic_of basic_bytes
  basic-block k l u =
      let right = rw (le-leb k (counts file).blocks (omega arith)) at (a.blocks-right k l (omega arith)) in
      block-is k (basic_bytes (basic_of (block_in file k))) (block_in file k) (a.checksums k (omega arith)) ((and-eq-true_iff (leb (field (block_in file k) 2 2) 124) _).0 right).1

  preempter-block : (k : ℕ) → 1 + (counts file).blocks ≤ k → k < 1 + (counts file).blocks + (counts file).preempters
      → block_in file k ≡ sealed (numbered k (preempter_bytes (preempter_of (block_in file k))))
  unfolding block_right entry_right preempter_of preempter_bytes
  preempter-block k l u =
      let right = rw (lt-leb k (counts file).blocks (omega arith)) at (a.blocks-right k (omega arith) (omega arith)) in
      block-is k (preempter_bytes (preempter_of (block_in file k))) (block_in file k) (a.checksums k (omega arith)) ((and-eq-true_iff (leb (field (block_in file k) 2 2) 124) _).0 right).1

  file-of-task : file_of (task_of file) ≡ file
  unfolding file_of named_bytes whole_blocks task_of block_in
  file-of-task =
      let n = (counts file).blocks in
      let m = (counts file).preempters in
      let basic : ℕ → List ℕ = λ k. basic_bytes (basic_of (block_in file k)) in
      let preempter : ℕ → List ℕ = λ k. preempter_bytes (preempter_of (block_in file k)) in
      rw (
        ← first_block,
        map-collect basic_bytes (λ k. basic_of (block_in file k)) 1 n,
        map-collect preempter_bytes (λ k. preempter_of (block_in file k)) (1 + n) m,
        whole_append 1 (collect basic 1 n) (collect preempter (1 + n) m),
        length-collect basic 1 n,
        whole_in file basic 1 n basic-block,
        whole_in file preempter (1 + n) m preempter-block,
      )
      (three-parts file n m a.long)

module _ (file : List ℕ) (a : AcceptedFile file) where
  -- the parts of the file behind its header
  pub basic-part : (w : ℕ) → w ≡ 512 * (counts file).blocks → take w (drop 512 file) ≡ basic_blocks (task_of file)
  unfolding basic_blocks task_of
  basic-part w ew = rw (ew, map-collect) (sym (whole_in file (λ k. basic_bytes (basic_of (block_in file k))) 1 (counts file).blocks (basic-block file a)))

  pub preempter-part : (s w : ℕ) → s ≡ 512 * (1 + (counts file).blocks) → w ≡ 512 * (counts file).preempters
      → take w (drop s file) ≡ preempter_blocks (task_of file)
  unfolding preempter_blocks task_of
  preempter-part s w es ew =
      rw (es, ew, map-collect, length-collect)
      (sym (whole_in file (λ k. preempter_bytes (preempter_of (block_in file k))) (1 + (counts file).blocks) (counts file).preempters (preempter-block file a)))

pub task-then-file : TaskThenFile
task-then-file file e = file-of-task file (accepted file e)

-- the bytes of a task are bytes, whatever its numbers are

whole-bytes : (k : ℕ) (ns : List (List ℕ)) → Each AllBytes ns → AllBytes (whole_blocks k ns)
unfolding whole_blocks Each
whole-bytes k [] e i h = absurd (omega arith)
whole-bytes k (n ∷ ns) e i h = bytes-append (sealed (numbered k n)) (whole_blocks (suc k) ns) (sealed-bytes k n e.0) (whole-bytes (suc k) ns e.1) i h

entry-all : (kind byte1 x : ℕ) (reads : List ℕ) → AllBytes (entry_bytes kind byte1 x reads)
unfolding entry_bytes
entry-all kind byte1 x reads = bytes-append (packed _) (les 4 reads) (packed-bytes _) (bytes-les 4 reads)

file-bytes : (t : Task) → AllBytes (file_of t)
unfolding file_of named_bytes Each basic_bytes preempter_bytes
file-bytes t =
    whole-bytes 0 (named_bytes t) (
      packed-bytes (task_numbers t),
      each_append AllBytes (map basic_bytes t.blocks) (map preempter_bytes t.preempters)
          (all_map AllBytes basic_bytes (λ b. entry-all 2 (bit b.armed) b.time b.reads) t.blocks)
          (all_map AllBytes preempter_bytes (λ p. entry-all 3 0 p.id p.reads) t.preempters),
    )

-- so are those of an accepted file, and what is read from them is below its width

collect-each : {A : Type 0} (P : A → Type 0) (f : ℕ → A) (a n : ℕ) → ((i : ℕ) → a ≤ i → i < a + n → P (f i)) → Each P (collect f a n)
unfolding collect Each
collect-each P f a zero h = tt
collect-each P f a (suc n) h = (h a (omega arith) (omega arith), collect-each P f (suc a) n (λ i l u. h i (omega arith) (omega arith)))

entry-within : (bs : List ℕ) → AllBytes bs → field bs 2 2 ≤ 124 → EntryWithin (field bs 4 4) (reads_in bs)
unfolding reads_in
entry-within bs b h =
    record {
      number = field_below bs 4 4 b;
      count = rw length_fields h;
      numbers = fields-below bs 8 4 (field bs 2 2) b;
    }

module _ (file : List ℕ) (a : AcceptedFile file) where
  bytes : AllBytes file
  bytes = rw (file-of-task file a) at (file-bytes (task_of file))

  bytes-in : (k : ℕ) → AllBytes (block_in file k)
  unfolding block_in
  bytes-in k = bytes_take 512 (drop (512 * k) file) (bytes_drop (512 * k) file bytes)

  -- the header's numbers are those that stand there
  header-fits : Each InWidth (task_numbers (task_of file))
  unfolding header_numbers header_of task_of counts unpacked Each
  header-fits =
      rw (block-count file, preempter-count file)
      (omega arith, (omega arith, unpacked-fits file 2 (map (λ s. s.0) (drop 2 (task_numbers (task_of file)))) bytes))

  within : Within (task_of file)
  unfolding header_right task_of basic_of preempter_of
  within =
      record {
        in-range = ((and-eq-true_iff (header_in_range (task_of file)) _).0 a.header-right).0;
        numbers = header-fits;
        blocks = collect-each (λ b. EntryWithin b.time b.reads) (λ k. basic_of (block_in file k)) 1 (counts file).blocks
            (λ k l u. entry-within (block_in file k) (bytes-in k) (a.count_most k l (omega arith)));
        preempters = collect-each (λ p. EntryWithin p.id p.reads) (λ k. preempter_of (block_in file k)) (1 + (counts file).blocks) (counts file).preempters
            (λ k l u. entry-within (block_in file k) (bytes-in k) (a.count_most k (omega arith) (omega arith)));
      }

pub accepted-within : AcceptedWithin
accepted-within file e = within file (accepted file e)
