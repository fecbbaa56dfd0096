-- Laws of what is appended to a buffer: nothing, a block, and one part behind another, up to all blocks of a task, whose file it then becomes.
-- Assumes nothing.
use Prim.Native.Nat.{ℕ, suc, ◌+◌, ◌*◌, ◌≤◌}
use mathlib.Core.Path.{◌≡◌, sym, ap, ◌∙◌}
use mathlib.Core.List.{List, [], ◌∷◌, ◌++◌, map, append-nil, append_assoc}
use native.Mathlib.Nat.{add-zero}
use native.Mathlib.Omega.{arith}
use lib.ListN.{length, take, drop, length-append, length-drop, length-map, take-append-drop, drop_of_length-le}
use lib.Seq.{drop_at, drop-append-le, take-append-le, length-take-le}
use borrow.Rule.Slice.PartMut.{put_mid}
use Rattle.model.specs.Task.{Task, block_count}
use Rattle.model.specs.declared.Header.{Header}
use Rattle.block.specs.Bytes.{packed}
use Rattle.block.specs.Blocks.{numbered, sealed_blocks}
use Rattle.block.proofs.Sealing.{sealed-add, sealed-front}
use Rattle.taskfile.specs.File.{header_numbers, basic_bytes, preempter_bytes, named_bytes, whole_blocks, file_of}
use Rattle.taskfile.proofs.Files.{whole_append}
use Rattle.writer.specs.Writing.{Appended, closed_file}

pub appended-none : (k : ℕ) (bs : List ℕ) → Appended k [] bs bs
unfolding Appended whole_blocks
appended-none k bs = rw (add-zero, append-nil)

-- one part behind another
pub appended-both : (k : ℕ) (xs ys : List (List ℕ)) (old mid new : List ℕ) → Appended k xs old mid → Appended (k + length xs) ys mid new → Appended k (xs ++ ys) old new
unfolding Appended
appended-both k xs ys old mid new a b =
    let count : k + length (xs ++ ys) ≡ k + length xs + length ys = omega (arith, length-append xs ys) in
    let next : 1 + k + length xs ≡ 1 + (k + length xs) = omega arith in
    rw (count, whole_append (1 + k) xs ys, next) (rw (a, append_assoc) at b)

-- one block, in the place of w bytes from byte s on
appended_one : (k s w : ℕ) (named bs part : List ℕ) → s ≡ 512 * (1 + k) → s ≤ length bs → 508 ≤ length part → take 508 part ≡ numbered (1 + k) named
    → Appended k (named ∷ []) bs (put_mid s w bs part)
unfolding Appended whole_blocks sealed_blocks
appended_one k s w named bs part e h l p =
    let front : List ℕ = take s bs in
    let rest : List ℕ = part ++ drop w (drop s bs) in
    let long : length front ≡ s = length-take-le s bs h in
    let before : length (drop 512 front) ≡ 512 * k = omega (arith, length-drop 512 front) in
    let behind : drop 512 (front ++ rest) ≡ drop 512 front ++ rest = drop-append-le 512 front rest (omega arith) in
    let kept : drop 512 bs ≡ drop 512 front ++ drop s bs =
    ap (drop 512) (sym (take-append-drop s bs)) ∙ drop-append-le 512 front (drop s bs) (omega arith) in
    rw (
      behind,
      sealed-add k 1,
      sealed-front k (drop 512 front) rest before,
      drop_at (drop 512 front) rest (512 * k) before,
      take-append-le 508 part (drop w (drop s bs)) l,
      p,
      kept,
      sealed-front k (drop 512 front) (drop s bs) before,
    )

-- one block more
pub appended-more : (k s w : ℕ) (xs : List (List ℕ)) (named old bs part : List ℕ) → s ≡ 512 * (1 + k + length xs) → s ≤ length bs → 508 ≤ length part
    → Appended k xs old bs → take 508 part ≡ numbered (1 + k + length xs) named → Appended k (xs ++ (named ∷ [])) old (put_mid s w bs part)
appended-more k s w xs named old bs part e h l a p =
    let next : 1 + k + length xs ≡ 1 + (k + length xs) = omega arith in
    appended-both k xs (named ∷ []) old bs (put_mid s w bs part) a
    (appended_one (k + length xs) s w named bs part (omega arith) h l (rw next at p))

-- what `close_file` leaves
pub file-closed : (n m : ℕ) (h : Header) (bs head new : List ℕ) → length bs ≡ 512 * (1 + n + m) → length head ≡ 512
    → take 508 head ≡ numbered 0 (packed (header_numbers n m h)) → let all = head ++ drop 512 bs in
    new ≡ sealed_blocks (1 + n + m) all ++ drop (512 * (1 + n + m)) all → new ≡ closed_file n m h bs
unfolding closed_file sealed_blocks
file-closed n m h bs head new l lh p q =
    let all : List ℕ = head ++ drop 512 bs in
    let count : 1 + n + m ≡ suc (n + m) = omega arith in
    let none : drop (512 * (1 + n + m)) all ≡ [] =
    drop_of_length-le all {i = 512 * (1 + n + m)} (omega (arith, length-append head (drop 512 bs), length-drop 512 bs)) in
    q ∙ rw (none, append-nil, count, take-append-le 508 head (drop 512 bs) (omega arith), p, drop_at head (drop 512 bs) 512 lh)

-- a buffer with all blocks of a task becomes the task's file
pub task-closed : (t : Task) (n m : ℕ) (old bs : List ℕ) → n ≡ block_count t → m ≡ length t.preempters
    → Appended 0 (map basic_bytes t.blocks ++ map preempter_bytes t.preempters) old bs → closed_file n m t.header bs ≡ file_of t
unfolding closed_file Appended file_of named_bytes whole_blocks sealed_blocks
task-closed t n m old bs en em a =
    let names : List (List ℕ) = map basic_bytes t.blocks ++ map preempter_bytes t.preempters in
    let count : n + m ≡ 0 + length names =
    omega (
      arith,
      length-append (map basic_bytes t.blocks) (map preempter_bytes t.preempters),
      length-map t.blocks basic_bytes,
      length-map t.preempters preempter_bytes,
    ) in
    rw (count, a, en, em)
