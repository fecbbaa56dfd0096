-- Laws of blocks of 512 bytes: the tests of a checksum and of a body, part by part, and what the tests say together.
-- Assumes nothing.
use Prim.Native.Nat.{ℕ, ◌+◌, ◌-◌, ◌^◌, ◌<◌, ◌≤◌}
use mathlib.Core.Path.{◌≡◌, refl, sym, ap, ap₂, ◌∙◌}
use mathlib.Core.Bool.{Bool, true, ◌&&◌, and-true}
use mathlib.Core.List.{List, ◌∷◌, ◌++◌, append-nil, append_assoc}
use native.Mathlib.Omega.{arith}
use lib.Dec.{eqb}
use lib.ListN.{length, get_or, take, drop, replicate, length-append, length-drop, length-replicate, take-append-drop, drop_of_length-le}
use lib.Seq.{take_all, take-add, take_at, drop-drop, length-take-le}
use Rattle.model.specs.Lists.{same_list}
use Rattle.model.proofs.Lists.{same-list, list_same, same-append}
use Rattle.fnv.specs.Fnv.{fnv1a}
use Rattle.fnv.proofs.Laws.{hash-below}
use Rattle.block.specs.Bytes.{AllBytes, Sized, InWidth, le, les, packed, field, fields, zeros_between, Each}
use Rattle.block.specs.Blocks.{numbered, sealed, checksum_right, body_right, framed}
use Rattle.block.proofs.Bytes.{length-le, length_part, same-field, field-byte, bytes-append, bytes-zeros, bytes_le, fields-les}
use Rattle.block.proofs.Packing.{total, unpacked, packed-unpacked, number_at, numbers-read}

fnv-below : (bs : List ℕ) → fnv1a bs < 2 ^ 32
unfolding fnv1a
fnv-below bs = hash-below 2166136261 bs (omega arith)

-- the checksum's test is of the last four bytes
pub checksum-field : (bs : List ℕ) → AllBytes bs → length bs ≡ 512 → checksum_right bs ≡ eqb (field bs 508 4) (fnv1a (take 508 bs))
unfolding checksum_right sealed
checksum-field bs b l =
    let h : List ℕ = le 4 (fnv1a (take 508 bs)) in
    let end : take 4 (drop 508 bs) ≡ drop 508 bs = take_all 4 (drop 508 bs) (omega (arith, length-drop 508 bs)) in
    ap (λ (r : List ℕ). same_list r (take 508 bs ++ h)) (sym (take-append-drop 508 bs)) ∙
    same-append (take 508 bs) (take 508 bs) (drop 508 bs) h refl ∙
    rw (list_same, ← end) (same-field bs 508 4 (fnv1a (take 508 bs)) b (omega arith) (fnv-below (take 508 bs)))

-- what `seal` leaves
pub seal-put : (bs new : List ℕ) (h : ℕ) → length bs ≡ 512 → new ≡ take 508 bs ++ le 4 h ++ drop 512 bs → h ≡ fnv1a (take 508 bs)
    → new ≡ sealed (take 508 bs)
unfolding sealed
seal-put bs new h l p q =
    rw (p, q, drop_of_length-le bs {i = 512} (omega arith)) (append-nil (take 508 bs ++ le 4 (fnv1a (take 508 bs))))

-- the body's test is of the named bytes, the zeros and the number
body-parts : (k n : ℕ) (named bs : List ℕ) → length named ≡ n → n ≤ 504 → 508 ≤ length bs
    → body_right k named bs
    ≡ (same_list (take n bs) named && same_list (take (504 - n) (drop n bs)) (replicate (504 - n) 0) && same_list (take 4 (drop 504 bs)) (le 4 k))
unfolding body_right numbered
body-parts k n named bs l h m =
    let first : List ℕ = take n bs in
    let rest : List ℕ = take (504 - n) (drop n bs) in
    let zeros : List ℕ = replicate (504 - n) 0 in
    let number : List ℕ = take 4 (drop 504 bs) in
    let s : 504 ≡ n + (504 - n) = omega arith in
    let split : take 508 bs ≡ first ++ rest ++ number =
    take-add 504 4 bs ∙ ap (λ (r : List ℕ). r ++ number) (ap (λ (j : ℕ). take j bs) s ∙ take-add n (504 - n) bs) in
    let named-long : length first ≡ length named = length-take-le n bs (omega arith) ∙ sym l in
    let zeros-long : length rest ≡ length zeros = length_part n (504 - n) bs (omega arith) ∙ sym (length-replicate (504 - n) 0) in
    rw (split, l)
    (same-append (first ++ rest) (named ++ zeros) number (le 4 k) (simp length-append (ap₂ ◌+◌ named-long zeros-long)) ∙
    ap (λ (b : Bool). b && same_list number (le 4 k)) (same-append first named rest zeros named-long))

-- what `body_right` tests
pub body-frame : (k kind byte1 end : ℕ) (bs : List ℕ) → AllBytes bs → length bs ≡ 512 → 2 ≤ end → end ≤ 504 → kind < 2 ^ 8 → byte1 < 2 ^ 8 → k < 2 ^ 32
    → body_right k (framed kind byte1 end bs) bs
    ≡ (eqb (get_or bs 0 0) kind && eqb (get_or bs 1 0) byte1 && zeros_between bs end 504 && eqb (field bs 504 4) k)
unfolding framed
body-frame k kind byte1 end bs b l o h kf bf nf =
    let free : List ℕ = take (end - 2) (drop 2 bs) in
    let two : List ℕ = take 1 bs ++ take 1 (drop 1 bs) in
    let given : List ℕ = le 1 kind ++ le 1 byte1 in
    let s : end ≡ 1 + 1 + (end - 2) = omega arith in
    let split : take end bs ≡ two ++ free = ap (λ (j : ℕ). take j bs) s ∙ take-add 2 (end - 2) bs ∙ ap (λ (r : List ℕ). r ++ free) (take-add 1 1 bs) in
    let one : length (take 1 bs) ≡ length (le 1 kind) = length-take-le 1 bs (omega arith) ∙ sym (length-le 1 kind) in
    let other : length (take 1 (drop 1 bs)) ≡ length (le 1 byte1) = length_part 1 1 bs (omega arith) ∙ sym (length-le 1 byte1) in
    let both : length two ≡ length given = simp length-append (ap₂ ◌+◌ one other) in
    let long : length (given ++ free) ≡ end = simp (length-append, length-le, length_part 2 (end - 2) bs (omega arith)) (omega arith) in
    body-parts k end (given ++ free) bs long h (omega arith) ∙
    rw (
      split,
      same-append two given free free both,
      same-append (take 1 bs) (le 1 kind) (take 1 (drop 1 bs)) (le 1 byte1) one,
      same-field bs 0 1 kind b (omega arith) kf,
      field-byte bs 0 (omega arith),
      same-field bs 1 1 byte1 b (omega arith) bf,
      field-byte bs 1 (omega arith),
      list_same,
      same-field bs 504 4 k b (omega arith) nf,
      and-true,
    )

-- numbers that are read from a block from byte 2 on, and what stands after them, are as they stand
pub framed-read : (kind byte1 m : ℕ) (ws bs : List ℕ) → AllBytes bs → 2 + total ws + m ≤ length bs
    → packed ((1, kind) ∷ (1, byte1) ∷ unpacked bs 2 ws) ++ take m (drop (2 + total ws) bs) ≡ framed kind byte1 (2 + total ws + m) bs
unfolding framed packed le
framed-read kind byte1 m ws bs b h =
    let s : 2 + total ws + m - 2 ≡ total ws + m = omega arith in
    rw (s, take-add (total ws) m (drop 2 bs), drop-drop, packed-unpacked bs 2 ws b (omega arith))

-- a whole block

pub length-numbered : (k : ℕ) (named : List ℕ) → length named ≤ 504 → length (numbered k named) ≡ 508
unfolding numbered
length-numbered k named h = simp (length-append, length-replicate, length-le) (omega arith)

pub length-sealed : (bs : List ℕ) → length bs ≡ 508 → length (sealed bs) ≡ 512
unfolding sealed
length-sealed bs l = simp (length-append, length-le) (omega arith)

take-sealed : (bs : List ℕ) → length bs ≡ 508 → take 508 (sealed bs) ≡ bs
unfolding sealed
take-sealed bs l = take_at bs (le 4 (fnv1a bs)) 508 l

pub checksum-sealed : (bs : List ℕ) → length bs ≡ 508 → checksum_right (sealed bs) ≡ true
unfolding checksum_right
checksum-sealed bs l = rw (take-sealed bs l) (list_same (sealed bs))

pub body-sealed : (k : ℕ) (named : List ℕ) → length named ≤ 504 → body_right k named (sealed (numbered k named)) ≡ true
unfolding body_right
body-sealed k named h = rw (take-sealed (numbered k named) (length-numbered k named h)) (list_same (numbered k named))

-- what follows the named bytes of a block
abbrev pub after_named : ℕ → List ℕ → List ℕ
after_named k named = replicate (504 - length named) 0 ++ (le 4 k ++ le 4 (fnv1a (numbered k named)))

pub sealed-named : (k : ℕ) (named : List ℕ) → sealed (numbered k named) ≡ named ++ after_named k named
unfolding sealed numbered
sealed-named k named = simp append_assoc

pub sealed-bytes : (k : ℕ) (named : List ℕ) → AllBytes named → AllBytes (sealed (numbered k named))
unfolding sealed numbered
sealed-bytes k named b =
    let zeros : List ℕ = replicate (504 - length named) 0 in
    let numbers : AllBytes (named ++ zeros ++ le 4 k) =
    bytes-append (named ++ zeros) (le 4 k) (bytes-append named zeros b (bytes-zeros (504 - length named))) (bytes_le 4 k) in
    bytes-append (named ++ zeros ++ le 4 k) (le 4 (fnv1a (named ++ zeros ++ le 4 k))) numbers (bytes_le 4 (fnv1a (named ++ zeros ++ le 4 k)))

-- a block whose named bytes are numbers and then a list of numbers of one width reads back

module _ (k : ℕ) (ss : List Sized) (w : ℕ) (ns : List ℕ) where
  pub numbers-back : Each InWidth ss → let bs = sealed (numbered k (packed ss ++ les w ns)) in field bs ≡ (λ p v. number_at 0 ss p v (field bs p v))
  numbers-back f =
      numbers-read _ (les w ns ++ after_named k (packed ss ++ les w ns)) ss (sealed-named k (packed ss ++ les w ns) ∙ append_assoc (packed ss) (les w ns) _) f

  pub list_back : (at : ℕ) → length (packed ss) ≡ at → Each (λ m. m < 256 ^ w) ns
      → fields (sealed (numbered k (packed ss ++ les w ns))) at w (length ns) ≡ ns
  list_back at l f = rw sealed-named (fields-les (packed ss) (after_named k (packed ss ++ les w ns)) at w ns l f)

-- the two tests together: the block is the one with these named bytes
pub block-is : (k : ℕ) (named bs : List ℕ) → checksum_right bs ≡ true → body_right k named bs ≡ true → bs ≡ sealed (numbered k named)
unfolding checksum_right body_right
block-is k named bs c b = same-list bs (sealed (take 508 bs)) c ∙ ap sealed (same-list (take 508 bs) (numbered k named) b)
