-- The file of a trace: its blocks are appended one by one, and it is closed.
-- Assumes nothing.
use Prim.Native.Nat.{ℕ, zero, suc, ◌+◌, ◌*◌, ◌<◌, ◌≤◌}
use mathlib.Core.Path.{◌≡◌, refl, sym, ap, ◌∙◌}
use mathlib.Core.List.{List, [], ◌∷◌, ◌++◌, map, map-append, append-nil}
use native.Mathlib.Nat.{zero-add, add-zero, add-suc, suc-add}
use native.Mathlib.Omega.{arith}
use lib.ListN.{length, take, length-map}
use borrow.Rule.Slice.PartMut.{put_mid}
use Rattle.model.specs.Task.{Block, Task}
use Rattle.block.specs.Bytes.{Each, le, packed}
use Rattle.block.specs.Blocks.{numbered}
use Rattle.block.proofs.Bytes.{length-les}
use Rattle.block.proofs.Each.{each_map}
use Rattle.taskfile.specs.File.{collect, header_numbers, task_numbers, entry_bytes, basic_bytes, named_bytes, file_of}
use Rattle.taskfile.proofs.Accepted.{length-collect}
use Rattle.taskfile.proofs.Tasks.{Room, length_whole}
use Rattle.writer.specs.Writing.{Appended, closed_file}
use Rattle.writer.proofs.Laws.{appended-more, task-closed}
use Rattle.tracing.specs.Traces.{blocks_for, traced_block, group_at, traced_blocks, traced_header, traced_task}
use Rattle.tracing.specs.declared.Settings.{Settings}
use Rattle.tracing.proofs.Groups.{group-length}

collect-snoc : {A : Type 0} (f : ℕ → A) (a n : ℕ) → collect f a (suc n) ≡ collect f a n ++ (f (a + n) ∷ [])
unfolding collect
collect-snoc f a zero = rw add-zero
collect-snoc f a (suc n) = ap (λ (r : List _). f a ∷ r) (rw (add-suc, ← suc-add) (collect-snoc f (suc a) n))

-- one block more, in the part of w bytes behind those that are stored
pub block_more : (f : ℕ → Block) (i w : ℕ) (old out part : List ℕ) → (1 + i) * 512 ≤ length out → length part ≡ 512
    → Appended 0 (map basic_bytes (collect f 0 i)) old out → take 508 part ≡ numbered (1 + i) (basic_bytes (f i))
    → Appended 0 (map basic_bytes (collect f 0 (suc i))) old (put_mid ((1 + i) * 512) w out part)
block_more f i w old out part room long before p =
    let count : length (map basic_bytes (collect f 0 i)) ≡ i = length-map (collect f 0 i) basic_bytes ∙ length-collect f 0 i in
    rw (collect-snoc f 0 i, map-append, zero-add)
    (appended-more 0 ((1 + i) * 512) w (map basic_bytes (collect f 0 i)) (basic_bytes (f i)) old out part (omega arith) room (omega arith) before (rw count p))

pub count-traced : (s : Settings) (addresses : List ℕ) → length (traced_blocks s addresses) ≡ blocks_for (length addresses) s.group
unfolding traced_blocks
count-traced s addresses = length-collect _ 0 (blocks_for (length addresses) s.group)

pub traced-closed : (s : Settings) (addresses : List ℕ) (blocks : ℕ) (old bs new : List ℕ) → blocks ≡ blocks_for (length addresses) s.group
    → Appended 0 (map basic_bytes (traced_blocks s addresses)) old bs → new ≡ closed_file blocks 0 (traced_header s) bs → new ≡ file_of (traced_task s addresses)
unfolding traced_task
traced-closed s addresses blocks old bs new e a p =
    p ∙ task-closed (traced_task s addresses) blocks 0 old bs (e ∙ sym (count-traced s addresses)) refl (rw append-nil a)

-- what each of the collected blocks has
pub each-collect : {A : Type 0} (P : A → Type 0) (f : ℕ → A) (a n : ℕ) → ((i : ℕ) → a ≤ i → i < a + n → P (f i)) → Each P (collect f a n)
unfolding Each collect
each-collect P f a zero h = tt
each-collect P f a (suc n) h = (h a (omega arith) (omega arith), each-collect P f (suc a) n (λ i l m. h i (omega arith) (omega arith)))

room : (b : Block) → length b.reads ≤ 124 → Room (basic_bytes b)
unfolding basic_bytes entry_bytes packed le
room b h = rw length-les (omega arith)

few-reads : (s : Settings) (addresses : List ℕ) (i : ℕ) → s.group ≤ 124 → length (traced_block s (group_at s.group addresses i)).reads ≤ 124
unfolding traced_block
few-reads s addresses i h = rw (length-map, group-length) (omega arith)

header-room : (t : Task) → Room (packed (task_numbers t))
unfolding header_numbers packed le
header-room t = omega arith

roomy : (s : Settings) (addresses : List ℕ) → s.group ≤ 124 → Each Room (map basic_bytes (traced_blocks s addresses))
unfolding traced_blocks
roomy s addresses h =
    let n : ℕ = blocks_for (length addresses) s.group in
    let f : ℕ → Block = λ i. traced_block s (group_at s.group addresses i) in
    each_map (λ b. length b.reads ≤ 124) Room basic_bytes room (collect f 0 n)
    (each-collect (λ b. length b.reads ≤ 124) f 0 n (λ i _ _. few-reads s addresses i h))

pub length-traced : (s : Settings) (addresses : List ℕ) → s.group ≤ 124
    → length (file_of (traced_task s addresses)) ≡ 512 * (1 + blocks_for (length addresses) s.group)
unfolding file_of named_bytes traced_task Each
length-traced s addresses h =
    rw append-nil
    (length_whole 0 _ (header-room (traced_task s addresses), roomy s addresses h) ∙ rw (length-map, count-traced) (omega arith))
