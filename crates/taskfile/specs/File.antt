-- Task files (document 01, "Blocks of 512 bytes" and "Numbers given to the build"): the task of some bytes, the bytes of a task, and the
-- refusal of any bytes. Assumes nothing.
use Rattle.std.specs.Prelude.{ℕ, zero, suc, ◌+◌, ◌*◌, ◌/◌, ◌%◌, ◌<◌, ◌≤◌, ◌^◌, ◌≡◌, Bool, true, cond, ◌&&◌, List, [], ◌∷◌, ◌++◌, map, eqb, leb, ltb, length, take, drop, Err}
use Rattle.model.specs.Task.{Block, Preempter, Task, block_count, line_count}
use Rattle.model.specs.Sets.{bit}
use Rattle.model.specs.Answers.{accept, Verdict, refused_at, and_then}
use Rattle.model.specs.declared.Header.{Header}
use Rattle.model.specs.declared.Scratch.{Scratch}
use Rattle.model.specs.declared.Refusal.TheVariants.{Length, Checksum, WrongHeader, BlockCount, WrongBlock}
use Rattle.block.specs.Bytes.{Sized, InWidth, packed, les, field, fields, Each}
use Rattle.model.specs.Lists.{lowest_from}
use Rattle.block.specs.Blocks.{numbered, sealed, checksum_right, body_right}

-- block k of a file
unfoldable pub block_in : List ℕ → ℕ → List ℕ
block_in file k = take 512 (drop (512 * k) file)

-- how many blocks a file has
unfoldable pub blocks_in : List ℕ → ℕ
blocks_in file = length file / 512

-- N and M, which say how many basic blocks and how many preempter blocks (the document's interrupter blocks) follow the header
pub record Counts : Type 0 where
  pub blocks : ℕ
  pub preempters : ℕ

unfoldable pub counts : List ℕ → Counts
counts file = record { blocks = field file 2 2; preempters = field file 4 2 }

-- what a basic block or a preempter block reads: r memory block numbers, after their count r
unfoldable pub reads_in : List ℕ → List ℕ
reads_in bs = fields bs 8 4 (field bs 2 2)

-- the same of block k of a file
unfoldable pub entry_reads : List ℕ → ℕ → List ℕ
entry_reads file k = reads_in (block_in file k)

-- a basic block: its time, whether the sampler is armed in it, where byte 1 is 1 (document 02, item 9), and its reads
unfoldable pub basic_of : List ℕ → Block
basic_of bs = record { time = field bs 4 4; armed = eqb (field bs 1 1) 1; reads = reads_in bs }

-- a preempter block: its id and its reads
unfoldable pub preempter_of : List ℕ → Preempter
preempter_of bs = record { id = field bs 4 4; reads = reads_in bs }

-- f of the n numbers from a
unfoldable pub collect : {A : Type 0} → (ℕ → A) → ℕ → ℕ → List A
collect f a zero = []
collect f a (suc n) = f a ∷ collect f (suc a) n

-- reading: where each of the header's numbers stands
unfoldable pub header_of : List ℕ → Header
header_of file =
    record {
      line_count = field file 6 2;
      limit = field file 8 4;
      reload = field file 12 4;
      id = field file 16 4;
      scratch = record { first = field file 20 4; count = field file 24 4 };
      second_limit = field file 28 4;
      switch = field file 32 4;
    }

-- and the task: the header's numbers, and the blocks after the header
unfoldable pub task_of : List ℕ → Task
task_of file =
    record {
      header = header_of file;
      blocks = collect (λ k. basic_of (block_in file k)) 1 (counts file).blocks;
      preempters = collect (λ k. preempter_of (block_in file k)) (1 + (counts file).blocks) (counts file).preempters;
    }

-- writing: the numbers of a header with N and M, from byte 0 on, each behind its width: kind 1, a zero, N, M, and the others in their order
unfoldable pub header_numbers : ℕ → ℕ → Header → List Sized
header_numbers n m h =
    (1, 1) ∷ (1, 0) ∷ (2, n) ∷ (2, m) ∷
    (2, h.line_count) ∷
    (4, h.limit) ∷
    (4, h.reload) ∷
    (4, h.id) ∷
    (4, h.scratch.first) ∷
    (4, h.scratch.count) ∷
    (4, h.second_limit) ∷
    (4, h.switch) ∷
    []

-- those of a task's header
abbrev pub task_numbers : Task → List Sized
task_numbers t = header_numbers (block_count t) (length t.preempters) t.header

-- basic blocks and preempter blocks have one layout: kind, byte 1, the count of the reads, a number x (a time or an id), and the reads
unfoldable pub entry_bytes : ℕ → ℕ → ℕ → List ℕ → List ℕ
entry_bytes kind byte1 x reads = packed ((1, kind) ∷ (1, byte1) ∷ (2, length reads) ∷ (4, x) ∷ []) ++ les 4 reads

-- a basic block is of kind 2; byte 1 is 1 where the sampler is armed, else 0
unfoldable pub basic_bytes : Block → List ℕ
basic_bytes b = entry_bytes 2 (bit b.armed) b.time b.reads

-- a preempter block is of kind 3, and its byte 1 is 0
unfoldable pub preempter_bytes : Preempter → List ℕ
preempter_bytes p = entry_bytes 3 0 p.id p.reads

-- the named bytes of each block of a task
unfoldable pub named_bytes : Task → List (List ℕ)
named_bytes t = packed (task_numbers t) ∷ (map basic_bytes t.blocks ++ map preempter_bytes t.preempters)

-- whole blocks, numbered from k, with these named bytes
unfoldable pub whole_blocks : ℕ → List (List ℕ) → List ℕ
whole_blocks k [] = []
whole_blocks k (named ∷ rest) = sealed (numbered k named) ++ whole_blocks (suc k) rest

-- the basic blocks of a task, in its file: they start with block 1
unfoldable pub basic_blocks : Task → List ℕ
basic_blocks t = whole_blocks 1 (map basic_bytes t.blocks)

-- its preempter blocks: they follow the basic blocks
unfoldable pub preempter_blocks : Task → List ℕ
preempter_blocks t = whole_blocks (1 + block_count t) (map preempter_bytes t.preempters)

-- the bytes of a task
unfoldable pub file_of : Task → List ℕ
file_of t = whole_blocks 0 (named_bytes t)

-- the length is a multiple of 512, above 0 and at most 97 blocks
unfoldable pub length_right : ℕ → Bool
length_right n = ltb 0 n && eqb (n % 512) 0 && leb n 49664

-- the checksum of block k is right
abbrev pub sum_right : List ℕ → ℕ → Bool
sum_right file k = checksum_right (block_in file k)

-- N is 1 to 64, M 0 to 32, S 1 to 512
unfoldable pub counts_in_range : ℕ → ℕ → ℕ → Bool
counts_in_range n m s = leb 1 n && leb n 64 && leb m 32 && leb 1 s && leb s 512

-- the scratch range ends with the last memory block of four bytes or before: first plus count, a sum of numbers (document 02, item 5)
unfoldable pub scratch_in_range : Scratch → Bool
scratch_in_range s = leb (s.first + s.count) 4294967296

-- the ranges of a task's N, M, S and scratch range; Q, Q2, R, G and id are free
unfoldable pub header_in_range : Task → Bool
header_in_range t = counts_in_range (block_count t) (length t.preempters) (line_count t) && scratch_in_range t.header.scratch

-- the header is right: N, M, S and the scratch range, and then its kind, its number and its zero bytes, since its bytes are those that its task's numbers make
unfoldable pub header_right : List ℕ → Bool
header_right file = header_in_range (task_of file) && body_right 0 (packed (task_numbers (task_of file))) (block_in file 0)

-- a block is right as block k, of this kind and with this byte 1: r, and then its kind, its number and its zero bytes, since its bytes are
-- those that its own numbers make
unfoldable pub entry_right : ℕ → ℕ → ℕ → List ℕ → Bool
entry_right k kind byte1 bs = leb (field bs 2 2) 124 && body_right k (entry_bytes kind byte1 (field bs 4 4) (reads_in bs)) bs

-- block k is right: a basic block up to N, and a preempter block after it
unfoldable pub block_right : List ℕ → ℕ → Bool
block_right file k =
    let bs = block_in file k in
    cond (leb k (counts file).blocks) (entry_right k 2 (bit (basic_of bs).armed) bs) (entry_right k 3 0 bs)

-- the rows of the table, each as if it stood alone. Refusal 1: a wrong length
unfoldable pub length_row : List ℕ → Verdict
length_row file = cond (length_right (length file)) accept (Err Length)

-- refusal 2: the lowest block with a wrong checksum
unfoldable pub checksum_row : List ℕ → Verdict
checksum_row file = refused_at (lowest_from (sum_right file) 0 (blocks_in file)) Checksum accept

-- refusal 3: a wrong header
unfoldable pub header_row : List ℕ → Verdict
header_row file = cond (header_right file) accept (Err WrongHeader)

-- refusal 4: the file is not 1 + N + M blocks
unfoldable pub count_row : List ℕ → Verdict
count_row file = cond (eqb (blocks_in file) (1 + (counts file).blocks + (counts file).preempters)) accept (Err BlockCount)

-- refusal 5: the lowest wrong block after the header
unfoldable pub block_row : List ℕ → Verdict
block_row file = refused_at (lowest_from (block_right file) 1 ((counts file).blocks + (counts file).preempters)) WrongBlock accept

-- the answer to any bytes: the refusal of the first row that has one
unfoldable pub verdict : List ℕ → Verdict
verdict file = and_then (length_row file) (and_then (checksum_row file) (and_then (header_row file) (and_then (count_row file) (block_row file))))

-- a file is accepted
abbrev pub IsAccepted : List ℕ → Type 0
IsAccepted file = verdict file ≡ accept

-- what a block can hold: at most 124 reads, and numbers of four bytes
pub record EntryWithin (x : ℕ) (reads : List ℕ) : Type 0 where
  pub number : x < 2 ^ 32
  pub count : length reads ≤ 124
  pub numbers : Each (λ m. m < 2 ^ 32) reads

-- a task within the limits of a file
pub record Within (t : Task) : Type 0 where
  pub in-range : header_in_range t ≡ true
  pub numbers : Each InWidth (task_numbers t)
  pub blocks : Each (λ b. EntryWithin b.time b.reads) t.blocks
  pub preempters : Each (λ p. EntryWithin p.id p.reads) t.preempters
