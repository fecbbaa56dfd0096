-- What accepting says of a file, and the task that an accepted file holds, block by block.
-- Assumes nothing.
use Rattle.std.specs.Prelude.{None, Option, Some}
use Prim.Native.Nat.{ℕ, zero, suc, ◌+◌, ◌*◌, ◌/◌, ◌%◌, ◌<◌, ◌≤◌}
use mathlib.Core.Path.{◌≡◌, refl, sym, ap}
use mathlib.Core.Bool.{Bool, true, false, cond, ◌&&◌, and-eq-true_iff}
use mathlib.Core.List.{List, [], ◌++◌, append-nil, append_assoc}
use native.Mathlib.Nat.{zero-add, add-zero, add-suc, suc-add, add_comm, mul_comm}
use native.Mathlib.Numerals.{add-one}
use native.Mathlib.Omega.{arith}
use lib.Dec.{eqb, leb, ltb}
use lib.ListN.{length, get_or}
use borrow.Author.Tests.{eqb-true, leb-true, ltb-true}
use Rattle.model.specs.Task.{Block, Preempter, Task, block_count, line_count, no_preempter}
use Rattle.model.specs.Lines.{preempter_reads, block_at}
use Rattle.model.specs.Answers.{accept, refused_at}
use Rattle.model.specs.declared.Refusal.{Refusal}
use Rattle.model.proofs.Verdicts.{never_both, both-accepted, row-holds}
use Rattle.block.specs.Bytes.{field}
use Rattle.model.specs.Lists.{lowest_from}
use Rattle.block.proofs.Bytes.{field-part, length_fields, get_d-fields}
use Rattle.model.proofs.Lowest.{lowest-nowhere}
use Rattle.taskfile.specs.File.{reads_in, basic_of, preempter_of, block_in, blocks_in, entry_reads, counts, collect, header_of, task_of, sum_right, counts_in_range, header_in_range, header_right, entry_right, block_right, length_right, length_row, checksum_row, header_row, count_row, block_row, verdict}

-- a row accepts where no place is wrong
row-nowhere : (r : ℕ → Refusal) (p : Option ℕ) → refused_at p r accept ≡ accept → p ≡ None
row-nowhere r None e = refl
row-nowhere r (Some k) e = absurd (never_both (sym e))

-- an accepted file, of 1 + N + M blocks
pub record AcceptedFile (file : List ℕ) : Type 0 where
  pub long : length file ≡ 512 * (1 + (counts file).blocks + (counts file).preempters)
  pub blocks-least : 1 ≤ (counts file).blocks
  pub blocks-most : (counts file).blocks ≤ 64
  pub preempters-most : (counts file).preempters ≤ 32
  pub lines-least : 1 ≤ line_count (task_of file)
  pub lines-most : line_count (task_of file) ≤ 512
  pub checksums : (k : ℕ) → k ≤ (counts file).blocks + (counts file).preempters → sum_right file k ≡ true
  pub header-right : header_right file ≡ true
  pub blocks-right : (k : ℕ) → 1 ≤ k → k ≤ (counts file).blocks + (counts file).preempters → block_right file k ≡ true
  pub count_most : (k : ℕ) → 1 ≤ k → k ≤ (counts file).blocks + (counts file).preempters → field (block_in file k) 2 2 ≤ 124

pub counts-range : (n m s : ℕ) → counts_in_range n m s ≡ true → (1 ≤ n) × (n ≤ 64) × (m ≤ 32) × (1 ≤ s) × (s ≤ 512)
unfolding counts_in_range
counts-range n m s e =
    let a = (and-eq-true_iff (leb 1 n && leb n 64 && leb m 32 && leb 1 s) (leb s 512)).0 e in
    let b = (and-eq-true_iff (leb 1 n && leb n 64 && leb m 32) (leb 1 s)).0 a.0 in
    let c = (and-eq-true_iff (leb 1 n && leb n 64) (leb m 32)).0 b.0 in
    let d = (and-eq-true_iff (leb 1 n) (leb n 64)).0 c.0 in
    (leb-true _ _ d.0, leb-true _ _ d.1, leb-true _ _ c.1, leb-true _ _ b.1, leb-true _ _ a.1)

pub in-range : (t : Task) → header_in_range t ≡ true
    → (1 ≤ block_count t) × (block_count t ≤ 64) × (length t.preempters ≤ 32) × (1 ≤ line_count t) × (line_count t ≤ 512)
unfolding header_in_range
in-range t e = counts-range (block_count t) (length t.preempters) (line_count t) ((and-eq-true_iff (counts_in_range (block_count t) (length t.preempters) (line_count t)) _).0 e).0

pub whole-blocks : (n : ℕ) → length_right n ≡ true → (0 < n) × (n % 512 ≡ 0)
unfolding length_right
whole-blocks n e =
    let a = (and-eq-true_iff (ltb 0 n) (eqb (n % 512) 0)).0 ((and-eq-true_iff (ltb 0 n && eqb (n % 512) 0) (leb n 49664)).0 e).0 in
    (ltb-true 0 n a.0, eqb-true (n % 512) 0 a.1)

-- a number of block k is a number of the file

pub field_in : (file : List ℕ) (k a w : ℕ) → a + w ≤ 512 → field (block_in file k) a w ≡ field file (k * 512 + a) w
unfolding block_in
field_in file k a w h = rw (mul_comm k 512) (field-part file (512 * k) 512 a w h)

-- the header's numbers are those of block 0: each ends there, which is computed

field-first : (file : List ℕ) (a w : ℕ) → leb (a + w) 512 ≡ true → field file a w ≡ field (block_in file 0) a w
field-first file a w e = sym (rw zero-add at (field_in file 0 a w (leb-true (a + w) 512 e)))

pub counts-in : (file : List ℕ) → counts file ≡ counts (block_in file 0)
unfolding counts
counts-in file = simp (field-first file)

pub header-in : (file : List ℕ) → header_of file ≡ header_of (block_in file 0)
unfolding header_of
header-in file = simp (field-first file)

pub length-reads : (file : List ℕ) (k : ℕ) → length (entry_reads file k) ≡ field (block_in file k) 2 2
unfolding entry_reads reads_in
length-reads file k = length_fields (block_in file k) 8 4 (field (block_in file k) 2 2)

pub read-in : (file : List ℕ) (k j : ℕ) → j < length (entry_reads file k) → get_or (entry_reads file k) j 0 ≡ field (block_in file k) (8 + 4 * j) 4
unfolding entry_reads reads_in
read-in file k j h = get_d-fields (block_in file k) 8 4 (field (block_in file k) 2 2) j (omega (arith, length-reads file k))

-- the task of a file

pub length-collect : {A : Type 0} (f : ℕ → A) (a n : ℕ) → length (collect f a n) ≡ n
unfolding collect
length-collect f a zero = refl
length-collect f a (suc n) = ap suc (length-collect f (suc a) n)

pub get_d-collect : {A : Type 0} (f : ℕ → A) (a n i : ℕ) (d : A) → i < n → get_or (collect f a n) i d ≡ f (a + i)
unfolding collect
get_d-collect f a zero i d h = absurd (omega arith)
get_d-collect f a (suc n) zero d h = rw add-zero
get_d-collect f a (suc n) (suc i) d h = rw (add-suc, ← suc-add) (get_d-collect f (suc a) n i d (omega arith))

module _ (file : List ℕ) where
  pub block-count : block_count (task_of file) ≡ (counts file).blocks
  unfolding task_of
  block-count = length-collect (λ k. basic_of (block_in file k)) 1 (counts file).blocks

  pub preempter-count : length (task_of file).preempters ≡ (counts file).preempters
  unfolding task_of
  preempter-count = length-collect (λ k. preempter_of (block_in file k)) (1 + (counts file).blocks) (counts file).preempters

  pub block-at : (i : ℕ) → i < (counts file).blocks → block_at (task_of file) i ≡ basic_of (block_in file (1 + i))
  unfolding task_of block_at
  block-at i h = get_d-collect (λ k. basic_of (block_in file k)) 1 (counts file).blocks i _ h

  pub reads_at : (i : ℕ) → i < (counts file).blocks → (block_at (task_of file) i).reads ≡ entry_reads file (i + 1)
  unfolding entry_reads basic_of
  reads_at i h = rw (add_comm i 1) (ap (λ (b : Block). b.reads) (block-at i h))

  pub preempter-at : (i : ℕ) → i < (counts file).preempters → get_or (task_of file).preempters i no_preempter ≡ preempter_of (block_in file (1 + (counts file).blocks + i))
  unfolding task_of
  preempter-at i h = get_d-collect (λ k. preempter_of (block_in file k)) (1 + (counts file).blocks) (counts file).preempters i _ h

  pub preempter-reads-at : (i : ℕ) → i < (counts file).preempters
      → (get_or (task_of file).preempters i no_preempter).reads ≡ entry_reads file (1 + (counts file).blocks + i)
  unfolding entry_reads preempter_of
  preempter-reads-at i h = ap (λ (p : Preempter). p.reads) (preempter-at i h)

pub accepted : (file : List ℕ) → verdict file ≡ accept → AcceptedFile file
unfolding verdict length_row checksum_row header_row count_row block_row header_right block_right entry_right blocks_in
accepted file e =
    let n : ℕ = (counts file).blocks in
    let m : ℕ = (counts file).preempters in
    let size = both-accepted (length_row file) _ e in
    let sums = both-accepted (checksum_row file) _ size.1 in
    let head = both-accepted (header_row file) _ sums.1 in
    let count = both-accepted (count_row file) (block_row file) head.1 in
    let whole = whole-blocks (length file) (row-holds _ (length_right (length file)) size.0) in
    let counted : length file / 512 ≡ 1 + n + m = eqb-true (blocks_in file) (1 + n + m) (row-holds _ (eqb (blocks_in file) (1 + n + m)) count.0) in
    let right : header_right file ≡ true = row-holds _ (header_right file) head.0 in
    let range = rw (block-count file, preempter-count file) at (in-range (task_of file) ((and-eq-true_iff (header_in_range (task_of file)) _).0 right).0) in
    let all : (k : ℕ) → 1 ≤ k → k ≤ n + m → block_right file k ≡ true =
    λ k l u. lowest-nowhere (block_right file) 1 (n + m) (row-nowhere _ (lowest_from (block_right file) 1 (n + m)) count.1) k l (omega arith) in
    record {
      long = omega arith;
      blocks-least = range.0;
      blocks-most = range.1;
      preempters-most = range.2;
      lines-least = range.3;
      lines-most = range.4;
      checksums = λ k l. lowest-nowhere (sum_right file) 0 (blocks_in file) (row-nowhere _ (lowest_from (sum_right file) 0 (blocks_in file)) sums.0) k (omega arith) (omega arith);
      header-right = right;
      blocks-right = all;
      count_most = λ k l u. leb-true (field (block_in file k) 2 2) 124 (few (leb k n) (leb (field (block_in file k) 2 2) 124) _ _ (all k l u));
    }
  where
    few : (basic count : Bool) (x y : Bool) → cond basic (count && x) (count && y) ≡ true → count ≡ true
    few true count x y h = ((and-eq-true_iff count x).0 h).0
    few false count x y h = ((and-eq-true_iff count y).0 h).0

-- an accepted file has at most 64 basic blocks
pub few-blocks : (file : List ℕ) → verdict file ≡ accept → block_count (task_of file) ≤ 64
few-blocks file h = omega (arith, block-count file, (accepted file h).blocks-most)

-- the reads of the n blocks from block k, in order
unfoldable pub reads_between : List ℕ → ℕ → ℕ → List ℕ
reads_between file k zero = []
reads_between file k (suc n) = entry_reads file k ++ reads_between file (suc k) n

-- one more block at the end
pub between-suc : (file : List ℕ) (k n : ℕ) → reads_between file k (suc n) ≡ reads_between file k n ++ entry_reads file (k + n)
unfolding reads_between
between-suc file k zero = rw add-zero (append-nil (entry_reads file k))
between-suc file k (suc n) = rw (between-suc file (suc k) n, add-suc, ← suc-add, append_assoc)

pub between_more : (file : List ℕ) (k n : ℕ) → reads_between file k (n + 1) ≡ reads_between file k n ++ entry_reads file (k + n)
between_more file k n = rw add-one (between-suc file k n)

pub preempter-reads : (file : List ℕ) → preempter_reads (task_of file).preempters ≡ reads_between file (1 + (counts file).blocks) (counts file).preempters
unfolding task_of preempter_reads collect reads_between preempter_of entry_reads
preempter-reads file = go (1 + (counts file).blocks) (counts file).preempters
  where
    go : (k n : ℕ) → preempter_reads (collect (λ k. preempter_of (block_in file k)) k n) ≡ reads_between file k n
    go k zero = refl
    go k (suc n) = ap (λ (r : List ℕ). entry_reads file k ++ r) (go (suc k) n)
