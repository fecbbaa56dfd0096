-- Laws of storing: what a list begins with, after one field more is stored behind it, and what a block's end makes of it.
-- Assumes nothing.
use Prim.Native.Nat.{ℕ, suc, ◌+◌, ◌-◌, ◌%◌, ◌<◌, ◌≤◌}
use mathlib.Core.Path.{◌≡◌, sym}
use mathlib.Core.List.{List, [], ◌∷◌, ◌++◌, append_assoc, append-nil}
use native.Mathlib.Numerals.{add-one}
use native.Mathlib.Omega.{arith}
use lib.ListN.{length, get_or, take, drop, set, replicate, length-append, length-replicate, take-append-drop}
use lib.Seq.{take_at, drop_at, drop-drop, take-suc, append_snoc, set_split, length-take-le}
use Rattle.block.specs.Bytes.{le, les}
use Rattle.block.specs.Blocks.{numbered}
use Rattle.block.proofs.Bytes.{length-le, length_part}

-- new is bs with these n bytes in place of its first
pub record Stored (n : ℕ) (bs new xs : List ℕ) : Type 0 where
  pub bytes : new ≡ xs ++ drop n bs
  pub long : length xs ≡ n

pub stored-none : (n : ℕ) (bs : List ℕ) → n ≤ length bs → Stored n bs bs (take n bs)
stored-none n bs h = record { bytes = sym (take-append-drop n bs); long = length-take-le n bs h }

-- what new begins with
pub stored-first : {n : ℕ} {bs new xs : List ℕ} → Stored n bs new xs → take n new ≡ xs
stored-first {n} {bs} {new} {xs} s = rw s.bytes (take_at xs (drop n bs) n s.long)

-- what follows in new
stored-rest : {n : ℕ} {bs new xs : List ℕ} → Stored n bs new xs → drop n new ≡ drop n bs
stored-rest {n} {bs} {new} {xs} s = rw s.bytes (drop_at xs (drop n bs) n s.long)

-- the next w bytes stay
pub stored-kept : {n : ℕ} {bs new xs : List ℕ} (w : ℕ) → n + w ≤ length bs → Stored n bs new xs → Stored (n + w) bs new (xs ++ take w (drop n bs))
stored-kept {n} {bs} {new} {xs} w h s =
    let rest : take w (drop n bs) ++ drop (n + w) bs ≡ drop n bs = rw (← drop-drop w n bs) (take-append-drop w (drop n bs)) in
    record { bytes = rw (append_assoc, rest) s.bytes; long = omega (arith, length-append xs (take w (drop n bs)), length_part n w bs h, s.long) }

-- these bytes are stored behind them
pub stored_more : {n : ℕ} {bs mid new xs : List ℕ} (end : ℕ) (ys : List ℕ) → Stored n bs mid xs → n + length ys ≡ end
    → new ≡ take n mid ++ ys ++ drop end mid → Stored end bs new (xs ++ ys)
stored_more {n} {bs} {mid} {new} {xs} end ys s l p =
    let later : drop end mid ≡ drop end bs = rw (← l, ← drop-drop (length ys) n mid, stored-rest s, drop-drop) in
    record { bytes = rw (p, stored-first s, later); long = omega (arith, length-append xs ys, s.long) }

-- a number is stored behind them
pub stored-number : {n : ℕ} {bs mid new xs : List ℕ} (w v : ℕ) → Stored n bs mid xs → new ≡ take n mid ++ le w v ++ drop (n + w) mid
    → Stored (n + w) bs new (xs ++ le w v)
stored-number {n} w v s p = stored_more (n + w) (le w v) s (rw length-le) p

-- a byte is its own lowest byte
pub byte-stored : (bs : List ℕ) (at v : ℕ) → v < 256 → at + 1 ≤ length bs → set bs at v ≡ take at bs ++ le 1 v ++ drop (at + 1) bs
unfolding le
byte-stored bs at v h l =
    let byte : v % 256 ≡ v = omega arith in
    rw (byte, append_snoc, add-one) (set_split bs at v (omega arith))

pub les-snoc : (w n : ℕ) (ns : List ℕ) → les w (ns ++ (n ∷ [])) ≡ les w ns ++ le w n
unfolding les
les-snoc w n [] = append-nil (le w n)
les-snoc w n (m ∷ ns) = rw (les-snoc w n ns, append_assoc)

-- one number more of a list is stored
pub stored_next : {at : ℕ} {bs mid new : List ℕ} (w : ℕ) (ns xs : List ℕ) (i : ℕ) → i < length ns → Stored at bs mid (xs ++ les w (take i ns))
    → new ≡ take at mid ++ le w (get_or ns i 0) ++ drop (at + w) mid → Stored (at + w) bs new (xs ++ les w (take (suc i) ns))
stored_next w ns xs i h s p =
    let last : xs ++ les w (take i ns) ++ le w (get_or ns i 0) ≡ xs ++ les w (take (suc i) ns) =
    rw (take-suc ns i 0 h, les-snoc, append_assoc) in
    rw (← last) (stored-number w (get_or ns i 0) s p)

-- what `close_body` stores
pub body_closed : (k end : ℕ) (bs zeros new : List ℕ) → length bs ≡ 512 → end ≤ 504
    → zeros ≡ take end bs ++ replicate (504 - end) 0 ++ drop 504 bs → new ≡ take 504 zeros ++ le 4 k ++ drop 508 zeros
    → take 508 new ≡ numbered k (take end bs)
unfolding numbered
body_closed k end bs zeros new l h p q =
    let long : length (take end bs) ≡ end = length-take-le end bs (omega arith) in
    let s = stored_more 504 (replicate (504 - end) 0) (stored-none end bs (omega arith)) (rw length-replicate (omega arith)) p in
    rw long (stored-first (stored-number 4 k s q))
