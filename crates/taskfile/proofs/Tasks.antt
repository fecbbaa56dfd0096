-- The bytes of a task within the limits are accepted, and hold that task.
-- Assumes nothing.
use Rattle.model.specs.Answers.{accept}
use Prim.Native.Nat.{ℕ, zero, suc, ◌+◌, ◌-◌, ◌*◌, ◌%◌, ◌<◌, ◌≤◌}
use mathlib.Core.Path.{◌≡◌, refl, ap, ◌∙◌}
use mathlib.Core.Bool.{Bool, true, false}
use mathlib.Core.List.{List, [], ◌∷◌, ◌++◌, map, append_assoc}
use native.Mathlib.Nat.{zero-add, add-zero, add-suc, suc-add}
use native.Mathlib.Numerals.{one-add}
use native.Mathlib.Decide.{dec_le}
use native.Mathlib.Omega.{arith}
use lib.Dec.{eqb}
use lib.ListN.{length, get_or, length-append, length-map, get_or-append, get_or-map}
use lib.Seq.{take_at, drop-append-add, get_or-append-add, ext_get_or}
use borrow.Author.Tests.{le-leb, lt-leb, lt-ltb, eq-eqb}
use Rattle.model.specs.Sets.{bit}
use Rattle.model.specs.Task.{Block, Preempter, Task, block_count, no_block}
use Rattle.block.specs.Bytes.{Sized, le, packed, field, Each}
use Rattle.block.specs.Blocks.{numbered, sealed}
use Rattle.block.proofs.Bytes.{length-les}
use Rattle.block.proofs.Each.{each_at, each_map, each_append}
use Rattle.block.proofs.Packing.{number_at, numbers-read}
use Rattle.model.proofs.Lowest.{nowhere-lowest}
use Rattle.block.proofs.Blocks.{length-numbered, length-sealed, after_named, sealed-named, numbers-back, list_back, checksum-sealed, body-sealed}
use Rattle.taskfile.specs.File.{block_in, blocks_in, counts, reads_in, basic_of, preempter_of, collect, header_of, task_of, header_numbers, task_numbers, entry_bytes, basic_bytes, preempter_bytes, named_bytes, whole_blocks, basic_blocks, preempter_blocks, file_of, length_right, sum_right, header_right, entry_right, block_right, length_row, checksum_row, header_row, count_row, block_row, verdict, EntryWithin, Within}
use Rattle.taskfile.specs.Statements.{FileThenTask}
use Rattle.taskfile.proofs.Accepted.{in-range, length-collect, get_d-collect}

-- named bytes that a block has room for
abbrev pub Room : List ℕ → Type 0
Room named = length named ≤ 504

pub length_whole : (a : ℕ) (ns : List (List ℕ)) → Each Room ns → length (whole_blocks a ns) ≡ 512 * length ns
unfolding whole_blocks Each
length_whole a [] e = refl
length_whole a (n ∷ ns) e =
    rw (length-append, length-sealed (numbered a n) (length-numbered a n e.0), length_whole (suc a) ns e.1) (omega arith)

-- block k of whole blocks
block_of : (a k : ℕ) (ns : List (List ℕ)) (d : List ℕ) → Each Room ns → k < length ns
    → block_in (whole_blocks a ns) k ≡ sealed (numbered (a + k) (get_or ns k d))
unfolding whole_blocks Each block_in
block_of a k [] d e h = absurd (omega arith)
block_of a zero (n ∷ ns) d e h =
    let long : length (sealed (numbered a n)) ≡ 512 = length-sealed (numbered a n) (length-numbered a n e.0) in
    rw add-zero (take_at (sealed (numbered a n)) (whole_blocks (suc a) ns) 512 long)
block_of a (suc k) (n ∷ ns) d e h =
    let long : length (sealed (numbered a n)) ≡ 512 = length-sealed (numbered a n) (length-numbered a n e.0) in
    let next : 512 * suc k ≡ length (sealed (numbered a n)) + 512 * k = omega arith in
    rw (next, drop-append-add, add-suc, ← suc-add) (block_of (suc a) k ns d e.1 (omega arith))

-- a basic block or a preempter block reads back

module _ (k kind byte1 x : ℕ) (reads : List ℕ) (small : kind < 256) (flag : byte1 < 256) (w : EntryWithin x reads) where
  abbrev bytes : List ℕ
  bytes = sealed (numbered k (entry_bytes kind byte1 x reads))

  abbrev numbers : List Sized
  numbers = (1, kind) ∷ (1, byte1) ∷ (2, length reads) ∷ (4, x) ∷ []

  numbers-entry : field bytes ≡ (λ p v. number_at 0 numbers p v (field bytes p v))
  unfolding entry_bytes Each
  numbers-entry = numbers-back k numbers 4 reads (small, (flag, (omega (arith, w.count), (w.number, tt))))

  count-back : field bytes 2 2 ≡ length reads
  unfolding number_at
  count-back = rw numbers-entry

  byte-back : field bytes 1 1 ≡ byte1
  unfolding number_at
  byte-back = rw numbers-entry

  number-back : field bytes 4 4 ≡ x
  unfolding number_at
  number-back = rw numbers-entry

  reads-back : reads_in bytes ≡ reads
  unfolding reads_in entry_bytes packed le
  reads-back = rw count-back (list_back k numbers 4 reads 8 refl w.numbers)

  room : Room (entry_bytes kind byte1 x reads)
  unfolding entry_bytes packed le
  room = rw length-les (omega (arith, w.count))

  entry-right : entry_right k kind byte1 bytes ≡ true
  unfolding entry_right
  entry-right = rw (count-back, number-back, reads-back, le-leb (length reads) 124 w.count) (body-sealed k (entry_bytes kind byte1 x reads) room)

-- byte 1 says whether a block is armed, and no more
bit-small : (b : Bool) → bit b < 256
bit-small true = omega arith
bit-small false = omega arith

bit-read : (b : Bool) → eqb (bit b) 1 ≡ b
bit-read true = refl
bit-read false = refl

basic-back : (k : ℕ) (b : Block) → EntryWithin b.time b.reads → basic_of (sealed (numbered k (basic_bytes b))) ≡ b
unfolding basic_of basic_bytes
basic-back k b w =
    let flag : bit b.armed < 256 = bit-small b.armed in
    let byte : eqb (field (sealed (numbered k (entry_bytes 2 (bit b.armed) b.time b.reads))) 1 1) 1 ≡ b.armed =
    rw (byte-back k 2 (bit b.armed) b.time b.reads (omega arith) flag w) (bit-read b.armed) in
    λ i. record {
      time = number-back k 2 (bit b.armed) b.time b.reads (omega arith) flag w i;
      armed = byte i;
      reads = reads-back k 2 (bit b.armed) b.time b.reads (omega arith) flag w i;
    }

preempter-back : (k : ℕ) (p : Preempter) → EntryWithin p.id p.reads → preempter_of (sealed (numbered k (preempter_bytes p))) ≡ p
unfolding preempter_of preempter_bytes
preempter-back k p w = λ i. record { id = number-back k 3 0 p.id p.reads (omega arith) (omega arith) w i; reads = reads-back k 3 0 p.id p.reads (omega arith) (omega arith) w i }

-- f at the numbers from a is a list, element by element
collected : {A : Type 0} (f : ℕ → A) (a : ℕ) (xs : List A) (d : A)
    → ((i : ℕ) → i < length xs → f (a + i) ≡ get_or xs i d)
    → collect f a (length xs) ≡ xs
collected f a xs d h =
    ext_get_or d (collect f a (length xs)) xs (length-collect f a (length xs))
    (λ i l. let u : i < length xs = omega (arith, length-collect f a (length xs)) in get_d-collect f a (length xs) i d u ∙ h i u)

abbrev no_preempter : Preempter
no_preempter = record { id = 0; reads = [] }

module _ (t : Task) (w : Within t) where
  pub basics-roomy : Each Room (map basic_bytes t.blocks)
  unfolding basic_bytes
  basics-roomy =
      each_map (λ b. EntryWithin b.time b.reads) Room basic_bytes (λ b. room 0 2 (bit b.armed) b.time b.reads (omega arith) (bit-small b.armed)) t.blocks w.blocks

  pub preempters-roomy : Each Room (map preempter_bytes t.preempters)
  unfolding preempter_bytes
  preempters-roomy =
      each_map (λ p. EntryWithin p.id p.reads) Room preempter_bytes (λ p. room 0 3 0 p.id p.reads (omega arith) (omega arith)) t.preempters
      w.preempters

  roomy : Each Room (named_bytes t)
  unfolding Each named_bytes header_numbers packed le
  roomy = (omega arith, each_append Room (map basic_bytes t.blocks) (map preempter_bytes t.preempters) basics-roomy preempters-roomy)

  count-names : length (named_bytes t) ≡ 1 + block_count t + length t.preempters
  unfolding named_bytes
  count-names = simp (length-append, length-map) (omega arith)

  pub basics-long : length (basic_blocks t) ≡ 512 * block_count t
  unfolding basic_blocks
  basics-long = length_whole 1 (map basic_bytes t.blocks) basics-roomy ∙ rw length-map

  pub preempters-long : length (preempter_blocks t) ≡ 512 * length t.preempters
  unfolding preempter_blocks
  preempters-long = length_whole (1 + block_count t) (map preempter_bytes t.preempters) preempters-roomy ∙ rw length-map

  header-written : block_in (file_of t) 0 ≡ sealed (numbered 0 (packed (task_numbers t)))
  unfolding file_of named_bytes
  header-written = block_of 0 0 (named_bytes t) [] roomy (omega arith)

  basic-written : (i : ℕ) → i < block_count t → block_in (file_of t) (1 + i) ≡ sealed (numbered (1 + i) (basic_bytes (get_or t.blocks i no_block)))
  unfolding file_of named_bytes
  basic-written i h =
      let map-long : i < length (map basic_bytes t.blocks) = rw length-map h in
      rw one-add
      (block_of 0 (suc i) (named_bytes t) (basic_bytes no_block) roomy (omega (arith, count-names)) ∙
      rw (
        zero-add,
        get_or-append (map basic_bytes t.blocks) (map preempter_bytes t.preempters) (basic_bytes no_block) i map-long,
        get_or-map basic_bytes t.blocks i no_block,
      ))

  preempter-written : (i : ℕ) → i < length t.preempters
      → block_in (file_of t) (1 + block_count t + i) ≡ sealed (numbered (1 + block_count t + i) (preempter_bytes (get_or t.preempters i no_preempter)))
  unfolding file_of named_bytes
  preempter-written i h =
      let next : 1 + block_count t + i ≡ suc (block_count t + i) = omega arith in
      let d : List ℕ = preempter_bytes no_preempter in
      let past = ap (λ (n : ℕ). get_or (named_bytes t) (suc (n + i)) d) (length-map t.blocks basic_bytes) in
      let later = get_or-append-add (map basic_bytes t.blocks) (map preempter_bytes t.preempters) i d in
      rw next
      (block_of 0 (suc (block_count t + i)) (named_bytes t) d roomy (omega (arith, count-names)) ∙
      rw (zero-add, ← past, later, get_or-map preempter_bytes t.preempters i no_preempter))

  numbers-written : field (file_of t) ≡ (λ p v. number_at 0 (task_numbers t) p v (field (file_of t) p v))
  unfolding file_of named_bytes whole_blocks
  numbers-written =
      let head : List ℕ = packed (task_numbers t) in
      let rest : List ℕ = whole_blocks 1 (map basic_bytes t.blocks ++ map preempter_bytes t.preempters) in
      let begins : sealed (numbered 0 head) ++ rest ≡ head ++ (after_named 0 head ++ rest) = rw (sealed-named 0 head) (append_assoc head (after_named 0 head) rest) in
      numbers-read _ (after_named 0 head ++ rest) (task_numbers t) begins w.numbers

  counts-read : counts (file_of t) ≡ record { blocks = block_count t; preempters = length t.preempters }
  unfolding counts header_numbers number_at
  counts-read = rw numbers-written

  basic-within : (i : ℕ) → i < block_count t → let b = get_or t.blocks i no_block in EntryWithin b.time b.reads
  basic-within i h = each_at (λ b. EntryWithin b.time b.reads) t.blocks i no_block w.blocks h

  preempter-within : (i : ℕ) → i < length t.preempters → let p = get_or t.preempters i no_preempter in EntryWithin p.id p.reads
  preempter-within i h = each_at (λ p. EntryWithin p.id p.reads) t.preempters i no_preempter w.preempters h

  basics-read : collect (λ k. basic_of (block_in (file_of t) k)) 1 (block_count t) ≡ t.blocks
  basics-read =
      collected (λ k. basic_of (block_in (file_of t) k)) 1 t.blocks no_block
      (λ i h. ap basic_of (basic-written i h) ∙ basic-back (1 + i) (get_or t.blocks i no_block) (basic-within i h))

  preempters-read : collect (λ k. preempter_of (block_in (file_of t) k)) (1 + block_count t) (length t.preempters) ≡ t.preempters
  preempters-read =
      collected (λ k. preempter_of (block_in (file_of t) k)) (1 + block_count t) t.preempters no_preempter
      (λ i h. ap preempter_of (preempter-written i h) ∙ preempter-back (1 + block_count t + i) (get_or t.preempters i no_preempter) (preempter-within i h))

  task-of-file : task_of (file_of t) ≡ t
  unfolding task_of header_of counts header_numbers number_at
  task-of-file = rw (numbers-written, basics-read, preempters-read)

  pub length-file : length (file_of t) ≡ 512 * (1 + block_count t + length t.preempters)
  unfolding file_of named_bytes
  length-file = length_whole 0 (named_bytes t) roomy ∙ ap (λ (n : ℕ). 512 * n) count-names

  count-right : blocks_in (file_of t) ≡ 1 + block_count t + length t.preempters
  unfolding blocks_in
  count-right = omega (arith, length-file)

  length-right : length_right (length (file_of t)) ≡ true
  unfolding length_right
  length-right =
      let range = in-range t w.in-range in
      let n : ℕ = 512 * (1 + block_count t + length t.preempters) in
      rw (length-file, lt-ltb 0 n (omega arith), eq-eqb (n % 512) 0 (omega arith), le-leb n 49664 (omega arith))

  checksum-right : (k : ℕ) → 0 ≤ k → k < 0 + blocks_in (file_of t) → sum_right (file_of t) k ≡ true
  unfolding file_of named_bytes
  checksum-right k l u =
      let h : k < length (named_bytes t) = omega (arith, count-right, count-names) in
      rw (block_of 0 k (named_bytes t) [] roomy h)
      (checksum-sealed (numbered (0 + k) (get_or (named_bytes t) k [])) (length-numbered (0 + k) (get_or (named_bytes t) k []) (each_at Room (named_bytes t) k [] roomy h)))

  head-right : header_right (file_of t) ≡ true
  unfolding header_right Each named_bytes
  head-right = rw (task-of-file, header-written, w.in-range) (body-sealed 0 (packed (task_numbers t)) roomy.0)

  basic-right : (i : ℕ) → i < block_count t → block_right (file_of t) (1 + i) ≡ true
  unfolding block_right basic_bytes
  basic-right i h =
      let b = get_or t.blocks i no_block in
      rw (counts-read, le-leb (1 + i) (block_count t) (omega arith), basic-written i h, basic-back (1 + i) b (basic-within i h))
      (entry-right (1 + i) 2 (bit b.armed) b.time b.reads (omega arith) (bit-small b.armed) (basic-within i h))

  preempter-right : (i : ℕ) → i < length t.preempters → block_right (file_of t) (1 + block_count t + i) ≡ true
  unfolding block_right preempter_bytes
  preempter-right i h =
      let k : ℕ = 1 + block_count t + i in
      let p = get_or t.preempters i no_preempter in
      rw (preempter-written i h, counts-read, lt-leb k (block_count t) (omega arith))
      (entry-right k 3 0 p.id p.reads (omega arith) (omega arith) (preempter-within i h))

  block-right : (k : ℕ) → 1 ≤ k → k < 1 + (block_count t + length t.preempters) → block_right (file_of t) k ≡ true
  block-right k l u = go (dec_le k (block_count t))
    where
      go : Dec (k ≤ block_count t) → block_right (file_of t) k ≡ true
      go (yes h) = let e : 1 + (k - 1) ≡ k = omega arith in rw e at (basic-right (k - 1) (omega arith))
      go (no h) =
          let e : 1 + block_count t + (k - 1 - block_count t) ≡ k = omega arith in
          rw e at (preempter-right (k - 1 - block_count t) (omega arith))

  accepted-file : verdict (file_of t) ≡ accept
  unfolding verdict length_row checksum_row header_row count_row block_row
  accepted-file =
      rw (
        length-right,
        nowhere-lowest (sum_right (file_of t)) 0 (blocks_in (file_of t)) checksum-right,
        head-right,
        counts-read,
        eq-eqb (blocks_in (file_of t)) (1 + block_count t + length t.preempters) count-right,
        nowhere-lowest (block_right (file_of t)) 1 (block_count t + length t.preempters) block-right,
      )

pub file-then-task : FileThenTask
file-then-task t w = (accepted-file t w, task-of-file t w)
