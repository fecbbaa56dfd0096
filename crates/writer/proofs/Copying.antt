-- A copy of whole blocks is whole blocks with the same named bytes: the zeros behind them are copied too.
-- Assumes nothing.
use Prim.Native.Nat.{ℕ, zero, suc, ◌+◌, ◌-◌, ◌*◌}
use mathlib.Core.Path.{◌≡◌, refl, ap}
use mathlib.Core.List.{List, [], ◌∷◌, ◌++◌, append_assoc, append-nil}
use native.Mathlib.Omega.{arith}
use lib.ListN.{length, take, drop, replicate, length-append, length-replicate}
use lib.Seq.{take_at, take-take, drop_at, drop-drop, length-take-le}
use Rattle.fnv.specs.Fnv.{fnv1a}
use Rattle.block.specs.Bytes.{le, Each}
use Rattle.block.specs.Blocks.{numbered, sealed}
use Rattle.block.proofs.Blocks.{length-numbered, length-sealed}
use Rattle.taskfile.specs.File.{blocks_in, whole_blocks}
use Rattle.taskfile.proofs.Files.{whole_append}
use Rattle.taskfile.proofs.Tasks.{Room, length_whole}
use Rattle.writer.specs.Writing.{Appended, bodies, copies}

-- what `copy_block` copies
pub copied-front : (source front rest : List ℕ) → length source ≡ 512 → front ≡ take 504 source → take 504 (front ++ rest) ≡ take 504 source
copied-front source front rest l p = rw p (take_at (take 504 source) rest 504 (length-take-le 504 source (omega arith)))

-- block i of a source
pub body_at : (i s w : ℕ) (bs : List ℕ) → s ≡ 512 * i → w ≡ 512 → take 504 (take w (drop s bs)) ≡ take 504 (drop (512 * i) bs)
body_at i s w bs es ew = rw (es, ew) (take-take 504 512 (drop (512 * i) bs) (omega arith))

pub length-bodies : (n : ℕ) (bs : List ℕ) → length (bodies n bs) ≡ n
unfolding bodies
length-bodies zero bs = refl
length-bodies (suc n) bs = ap suc (length-bodies n (drop 512 bs))

-- one block more
pub bodies-snoc : (n : ℕ) (bs : List ℕ) → bodies (suc n) bs ≡ bodies n bs ++ (take 504 (drop (512 * n) bs) ∷ [])
unfolding bodies
bodies-snoc zero bs = refl
bodies-snoc (suc n) bs =
    let next : 512 * suc n ≡ 512 + 512 * n = omega arith in
    rw (next, ← drop-drop (512 * n) 512 bs) (ap (λ (r : List (List ℕ)). take 504 bs ∷ r) (bodies-snoc n (drop 512 bs)))

-- named bytes and the zeros behind them
full : (named : List ℕ) → Room named → length (named ++ replicate (504 - length named) 0) ≡ 504
full named h = rw (length-append, length-replicate) (omega arith)

padded : (k : ℕ) (named : List ℕ) → Room named → numbered k (named ++ replicate (504 - length named) 0) ≡ numbered k named
unfolding numbered
padded k named h = rw (full named h, append-nil)

front : (j : ℕ) (named rest : List ℕ) → Room named → take 504 (sealed (numbered j named) ++ rest) ≡ named ++ replicate (504 - length named) 0
unfolding sealed numbered
front j named rest h =
    let body : List ℕ = named ++ replicate (504 - length named) 0 in
    let sum : List ℕ = le 4 (fnv1a (body ++ le 4 j)) in
    rw (append_assoc (body ++ le 4 j) sum rest, append_assoc body (le 4 j) (sum ++ rest)) (take_at body (le 4 j ++ (sum ++ rest)) 504 (full named h))

bodies-whole : (j k : ℕ) (names : List (List ℕ)) → Each Room names → whole_blocks k (bodies (length names) (whole_blocks j names)) ≡ whole_blocks k names
unfolding bodies whole_blocks Each
bodies-whole j k [] e = refl
bodies-whole j k (n ∷ ns) e =
    let long : length (sealed (numbered j n)) ≡ 512 = length-sealed (numbered j n) (length-numbered j n e.0) in
    rw (front j n (whole_blocks (suc j) ns) e.0, padded k n e.0, drop_at (sealed (numbered j n)) (whole_blocks (suc j) ns) 512 long, bodies-whole (suc j) (suc k) ns e.1)

-- whole blocks are as many as were named
count-whole : (j : ℕ) (names : List (List ℕ)) → Each Room names → blocks_in (whole_blocks j names) ≡ length names
unfolding blocks_in
count-whole j names e = omega (arith, length_whole j names e)

-- so copies of some and of others behind them are all of those blocks appended
pub copied : (i j k : ℕ) (xs ys : List (List ℕ)) (source other old new : List ℕ) → Each Room xs → Each Room ys → source ≡ whole_blocks i xs
    → other ≡ whole_blocks j ys → Appended k (copies source ++ copies other) old new → Appended k (xs ++ ys) old new
unfolding Appended
copied i j k xs ys source other old new ex ey es eo a =
    rw (length-append xs ys, whole_append (1 + k) xs ys)
    (rw (
      length-append (copies source) (copies other),
      whole_append (1 + k) (copies source) (copies other),
      length-bodies (blocks_in source) source,
      length-bodies (blocks_in other) other,
      es,
      eo,
      count-whole i xs ex,
      count-whole j ys ey,
      bodies-whole i (1 + k) xs ex,
      bodies-whole j (1 + k + length xs) ys ey,
    ) at a)
