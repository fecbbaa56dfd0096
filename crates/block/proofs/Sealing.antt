-- Laws of sealed blocks: some, then the rest, and one part of a file after another that is given its checksums.
-- Assumes nothing.
use Prim.Native.Nat.{ℕ, zero, suc, ◌+◌, ◌-◌, ◌*◌, ◌≤◌}
use mathlib.Core.Path.{◌≡◌, refl, sym, ap, ◌∙◌}
use mathlib.Core.List.{List, ◌++◌, append_assoc, append-nil}
use native.Mathlib.Nat.{zero-add, suc-add}
use native.Mathlib.Omega.{arith}
use lib.ListN.{length, take, drop, length-append, length-drop, take-append-drop}
use borrow.Rule.Slice.PartMut.{put_mid}
use lib.Seq.{take_at, drop_at, take-append-le, drop-append-le, drop-drop, length-take-le}
use Rattle.fnv.specs.Fnv.{fnv1a}
use Rattle.block.specs.Bytes.{le}
use Rattle.block.specs.Blocks.{sealed, sealed_blocks}
use Rattle.block.specs.Steps.{SealedSoFar}
use Rattle.block.proofs.Blocks.{length-sealed}
use Rattle.block.proofs.Storing.{Stored, stored-kept, stored-number}

length-sealed-blocks : (n : ℕ) (bs : List ℕ) → 512 * n ≤ length bs → length (sealed_blocks n bs) ≡ 512 * n
unfolding sealed_blocks
length-sealed-blocks zero bs h = refl
length-sealed-blocks (suc n) bs h =
    omega (
      arith,
      length-append (sealed (take 508 bs)) (sealed_blocks n (drop 512 bs)),
      length-sealed (take 508 bs) (length-take-le 508 bs (omega arith)),
      length-sealed-blocks n (drop 512 bs) (omega (arith, length-drop 512 bs)),
    )

-- the first a, and then b more
pub sealed-add : (a b : ℕ) (bs : List ℕ) → sealed_blocks (a + b) bs ≡ sealed_blocks a bs ++ sealed_blocks b (drop (512 * a) bs)
unfolding sealed_blocks
sealed-add zero b bs = rw zero-add
sealed-add (suc a) b bs =
    let next : 512 * suc a ≡ 512 + 512 * a = omega arith in
    rw (suc-add, sealed-add a b (drop 512 bs), drop-drop, next, append_assoc)

-- what stands behind them does not matter
pub sealed-front : (n : ℕ) (xs ys : List ℕ) → length xs ≡ 512 * n → sealed_blocks n (xs ++ ys) ≡ sealed_blocks n xs
unfolding sealed_blocks
sealed-front zero xs ys l = refl
sealed-front (suc n) xs ys l =
    let front : take 508 (xs ++ ys) ≡ take 508 xs = take-append-le 508 xs ys (omega arith) in
    let later : drop 512 (xs ++ ys) ≡ drop 512 xs ++ ys = drop-append-le 512 xs ys (omega arith) in
    rw (front, later, sealed-front n (drop 512 xs) ys (omega (arith, length-drop 512 xs)))

sealed-taken : (n : ℕ) (bs : List ℕ) → 512 * n ≤ length bs → sealed_blocks n (take (512 * n) bs) ≡ sealed_blocks n bs
sealed-taken n bs h =
    sym (sealed-front n (take (512 * n) bs) (drop (512 * n) bs) (length-take-le (512 * n) bs h)) ∙ ap (sealed_blocks n) (take-append-drop (512 * n) bs)

-- a file in which no block has its checksum yet
pub sealed-none : (bs : List ℕ) (n : ℕ) → SealedSoFar bs n bs 0
sealed-none bs n = let all : n - 0 ≡ n = omega arith in record { most = omega arith; rest = rw all; beyond = refl }

-- lists that agree from m on agree from n on
drop-further : (m n : ℕ) (xs ys : List ℕ) → m ≤ n → drop m xs ≡ drop m ys → drop n xs ≡ drop n ys
drop-further m n xs ys h e = let s : n ≡ m + (n - m) = omega arith in rw (s, ← drop-drop (n - m) m xs, e, drop-drop)

-- a blocks more have theirs: the part from byte s on, of w bytes, was given them
pub sealed-more : (a k n s w : ℕ) (bs file part : List ℕ) → s ≡ 512 * k → w ≡ 512 * a → k + a ≤ n → 512 * n ≤ length file → SealedSoFar bs n file k
    → part ≡ sealed_blocks a (take w (drop s file)) → SealedSoFar bs n (put_mid s w file part) (k + a)
sealed-more a k n s w bs file part es ew h l so p =
    let rest : List ℕ = drop (512 * k) file in
    let long : 512 * a ≤ length rest = omega (arith, length-drop (512 * k) file) in
    let made : part ≡ sealed_blocks a rest = p ∙ rw (es, ew) (sealed-taken a rest long) in
    let front : List ℕ = take (512 * k) file ++ part in
    let end : 512 * (k + a) ≡ 512 * k + 512 * a = omega arith in
    let after : drop (512 * a) rest ≡ drop (512 * (k + a)) file = rw (end, drop-drop) in
    let new : put_mid s w file part ≡ front ++ drop (512 * (k + a)) file = rw (es, ew, after, append_assoc) in
    let front_long : length front ≡ 512 * (k + a) =
    omega (arith, length-append (take (512 * k) file) part, length-take-le (512 * k) file (omega arith), ap length made, length-sealed-blocks a rest long) in
    let left : n - k ≡ a + (n - (k + a)) = omega arith in
    let first : take (512 * (k + a)) (put_mid s w file part) ≡ front = rw new (take_at front (drop (512 * (k + a)) file) (512 * (k + a)) front_long) in
    let later : drop (512 * (k + a)) (put_mid s w file part) ≡ drop (512 * (k + a)) file =
    rw new (drop_at front (drop (512 * (k + a)) file) (512 * (k + a)) front_long) in
    let both : part ++ sealed_blocks (n - (k + a)) (drop (512 * (k + a)) file) ≡ sealed_blocks (n - k) rest =
    rw (made, ← after, left) (sym (sealed-add a (n - (k + a)) rest)) in
    record {
      most = h;
      rest = rw (first, later, append_assoc, both) so.rest;
      beyond = drop-further (512 * (k + a)) (512 * n) _ file (omega arith) later ∙ so.beyond;
    }

-- all have theirs
pub sealed-all : (n : ℕ) (bs new : List ℕ) → SealedSoFar bs n new n → new ≡ sealed_blocks n bs ++ drop (512 * n) bs
unfolding sealed_blocks
sealed-all n bs new s =
    let none : n - n ≡ 0 = omega arith in
    let first = rw (none, append-nil) at s.rest in
    rw (← first, ← s.beyond) (sym (take-append-drop (512 * n) new))

pub sealed-one : (bs : List ℕ) → sealed (take 508 bs) ≡ sealed_blocks 1 bs
unfolding sealed_blocks
sealed-one bs = sym (append-nil (sealed (take 508 bs)))

-- the checksum of the block from byte n on is stored
sealed-next : {n : ℕ} {bs mid new xs : List ℕ} (h : ℕ) → n + 512 ≤ length bs → Stored n bs mid xs → h ≡ fnv1a (take 508 (drop n bs))
    → new ≡ take (n + 508) mid ++ le 4 h ++ drop (n + 508 + 4) mid → Stored (n + 508 + 4) bs new (xs ++ sealed (take 508 (drop n bs)))
unfolding sealed
sealed-next h l s p q = rw (← p, ← append_assoc) (stored-number 4 h (stored-kept 508 (omega arith) s) q)

-- the block from number k on has its checksum too
pub sealed-stored : {bs mid new : List ℕ} (k h : ℕ) → 512 * k + 512 ≤ length bs → Stored (512 * k) bs mid (sealed_blocks k bs) → h ≡ fnv1a (take 508 (drop (512 * k) bs))
    → new ≡ take (512 * k + 508) mid ++ le 4 h ++ drop (512 * k + 508 + 4) mid → Stored (512 * (k + 1)) bs new (sealed_blocks (k + 1) bs)
sealed-stored {bs} k h l s p q =
    let end : 512 * (k + 1) ≡ 512 * k + 508 + 4 = omega arith in
    rw (end, sealed-add k 1 bs, ← sealed-one (drop (512 * k) bs)) (sealed-next h l s p q)
