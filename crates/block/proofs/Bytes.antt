-- Laws of numbers in bytes: a number of w bytes is below 256 ^ w, and writing and reading undo one another.
-- Assumes nothing.
use Prim.Native.Nat.{ℕ, zero, suc, ◌+◌, ◌-◌, ◌*◌, ◌/◌, ◌%◌, ◌^◌, ◌<◌, ◌≤◌}
use mathlib.Core.Path.{◌≡◌, refl, sym, ap, ap₂, ◌∙◌}
use mathlib.Core.Bool.{Bool, true, ◌&&◌}
use mathlib.Core.List.{List, [], ◌∷◌, ◌++◌, append_assoc}
use native.Mathlib.Nat.{add-zero, add-sub_cancel_left, mul-zero, mul-suc, mul_assoc, mul_comm, pow-suc, div-one, div-div-eq-div-mul}
use native.Mathlib.Numerals.{add-one}
use native.Mathlib.Omega.{arith}
use lib.Dec.{eqb}
use lib.ListN.{length, get_or, take, drop, replicate, length-append, length-take, length-drop, length-replicate, get_or-replicate, replicate-append-replicate}
use lib.Pow.{pow-add}
use lib.Seq.{take-take, take-add, take_at, drop-drop, drop-cons, drop_at, length-take-le, get_or-take, get_or-drop}
use borrow.Rule.Slice.PartMut.{put_mid}
use Rattle.std.specs.Int.{w16, w32, w64, from_le_bytes, bytes_low_first}
use Rattle.std.specs.List.{list_all}
use Rattle.model.specs.Lists.{same_list}
use Rattle.model.proofs.Lists.{same-eqb, same-append}
use Rattle.block.specs.Bytes.{AllBytes, le, les, value, field, fields, zeros_between, Each}

pow_pos : (w : ℕ) → 0 < 256 ^ w
pow_pos zero = omega arith
pow_pos (suc w) = rw pow-suc (omega (arith, pow_pos w))

pub pow-bytes : (w : ℕ) → 256 ^ w ≡ 2 ^ (8 * w)
pow-bytes zero = refl
pow-bytes (suc w) = rw (pow-suc, mul-suc 8 w, pow-add 2 (8 * w) 8, pow-bytes w)

-- lengths

pub length-le : (w n : ℕ) → length (le w n) ≡ w
unfolding le
length-le zero n = refl
length-le (suc w) n = ap suc (length-le w (n / 256))

pub length-les : (w : ℕ) (ns : List ℕ) → length (les w ns) ≡ w * length ns
unfolding les
length-les w [] = sym (mul-zero w)
length-les w (n ∷ ns) = omega (arith, length-append (le w n) (les w ns), length-le w n, length-les w ns, mul-suc w (length ns))

pub length_fields : (bs : List ℕ) (at w n : ℕ) → length (fields bs at w n) ≡ n
unfolding fields
length_fields bs at w zero = refl
length_fields bs at w (suc n) = ap suc (length_fields bs (at + w) w n)

pub length_part : (at w : ℕ) (bs : List ℕ) → at + w ≤ length bs → length (take w (drop at bs)) ≡ w
length_part at w bs h = length-take-le w (drop at bs) (omega (arith, length-drop at bs))

-- parts of bytes

pub bytes_drop : (m : ℕ) (bs : List ℕ) → AllBytes bs → AllBytes (drop m bs)
bytes_drop m bs b i h = rw get_or-drop (b (m + i) (omega (arith, length-drop m bs)))

pub bytes_take : (m : ℕ) (bs : List ℕ) → AllBytes bs → AllBytes (take m bs)
bytes_take m bs b i h =
    let l : i < m = omega (arith, length-take m bs) in
    rw get_or-take (b i (omega (arith, length-take m bs)))

bytes-tail : (x : ℕ) (bs : List ℕ) → AllBytes (x ∷ bs) → AllBytes bs
bytes-tail x bs b i h = b (suc i) (omega arith)

pub bytes-append : (xs ys : List ℕ) → AllBytes xs → AllBytes ys → AllBytes (xs ++ ys)
bytes-append [] ys a b i h = b i h
bytes-append (x ∷ xs) ys a b zero h = a 0 (omega arith)
bytes-append (x ∷ xs) ys a b (suc i) h = bytes-append xs ys (bytes-tail x xs a) b i (omega arith)

pub bytes-zeros : (n : ℕ) → AllBytes (replicate n 0)
bytes-zeros n i h = rw (get_or-replicate {A = ℕ} n i 0 0 (omega (arith, length-replicate {A = ℕ} n 0))) (omega arith)

pub bytes_le : (w n : ℕ) → AllBytes (le w n)
unfolding le
bytes_le zero n i h = absurd (omega arith)
bytes_le (suc w) n zero h = omega arith
bytes_le (suc w) n (suc i) h = bytes_le w (n / 256) i (omega arith)

pub bytes-les : (w : ℕ) (ns : List ℕ) → AllBytes (les w ns)
unfolding les
bytes-les w [] i h = absurd (omega arith)
bytes-les w (n ∷ ns) i h = bytes-append (le w n) (les w ns) (bytes_le w n) (bytes-les w ns) i h

-- there and back

pub value-le : (w n : ℕ) → n < 256 ^ w → value (le w n) ≡ n
unfolding le value
value-le zero n h = omega arith
value-le (suc w) n h = omega (arith, value-le w (n / 256) (omega (arith, rw pow-suc at h)))

pub le-value : (bs : List ℕ) → AllBytes bs → le (length bs) (value bs) ≡ bs
unfolding le value
le-value [] b = refl
le-value (x ∷ bs) b =
    let l : x < 256 = b 0 (omega arith) in
    let low : (x + 256 * value bs) % 256 ≡ x = omega arith in
    let high : (x + 256 * value bs) / 256 ≡ value bs = omega arith in
    rw (low, high) (ap (λ (r : List ℕ). x ∷ r) (le-value bs (bytes-tail x bs b)))

value-take-below : (w : ℕ) (bs : List ℕ) → AllBytes bs → value (take w bs) < 256 ^ w
unfolding value
value-take-below zero bs b = omega arith
value-take-below (suc w) [] b = pow_pos (suc w)
value-take-below (suc w) (x ∷ bs) b = rw pow-suc (omega (arith, b 0 (omega arith), value-take-below w bs (bytes-tail x bs b)))

pub field_below : (bs : List ℕ) (at w : ℕ) → AllBytes bs → field bs at w < 2 ^ (8 * w)
unfolding field
field_below bs at w b = rw (← pow-bytes) (value-take-below w (drop at bs) (bytes_drop at bs b))

-- the library's reading and writing

field-zero : (bs : List ℕ) (at : ℕ) → field bs at 0 ≡ 0
unfolding field value
field-zero bs at = refl

field-next : (bs : List ℕ) (i j w : ℕ) → j ≡ i + 1 → j ≤ length bs → field bs i (suc w) ≡ get_or bs i 0 + 256 * field bs j w
unfolding field value
field-next bs i j w e h =
    let l : i < length bs = omega arith in
    rw (drop-cons bs i 0 l, e, add-one)

pub field-two : (bs : List ℕ) (at : ℕ) → at + 2 ≤ length bs → from_le_bytes w16 (get_or bs at 0 ∷ get_or bs (at + 1) 0 ∷ []) ≡ field bs at 2
field-two bs at h =
    omega (arith, field-next bs at (at + 1) 1 (omega arith) (omega arith), field-next bs (at + 1) (at + 2) 0 (omega arith) (omega arith), field-zero bs (at + 2))

field-of-four : (bs : List ℕ) (at a b c d : ℕ) → a ≡ at + 1 → b ≡ at + 2 → c ≡ at + 3 → d ≡ at + 4 → d ≤ length bs
    → get_or bs at 0 + get_or bs a 0 * 256 + get_or bs b 0 * 65536 + get_or bs c 0 * 16777216 ≡ field bs at 4
field-of-four bs at a b c d ea eb ec ed h =
    omega (
      arith,
      field-next bs at a 3 (omega arith) (omega arith),
      field-next bs a b 2 (omega arith) (omega arith),
      field-next bs b c 1 (omega arith) (omega arith),
      field-next bs c d 0 (omega arith) (omega arith),
      field-zero bs d,
    )

pub field-four : (bs : List ℕ) (at : ℕ) → at + 4 ≤ length bs
    → from_le_bytes w32 (get_or bs at 0 ∷ get_or bs (at + 1) 0 ∷ get_or bs (at + 2) 0 ∷ get_or bs (at + 3) 0 ∷ []) ≡ field bs at 4
field-four bs at h = field-of-four bs at (at + 1) (at + 2) (at + 3) (at + 4) refl refl refl refl h

pub bytes-le : (i w n : ℕ) → bytes_low_first i w n ≡ le w (n / 256 ^ i)
unfolding le
bytes-le i zero n = refl
bytes-le zero (suc w) n = rw div-one (ap (λ (r : List ℕ). n % 256 ∷ r) (bytes-le 1 w n))
bytes-le (suc i) (suc w) n =
    let next : n / 256 ^ suc (suc i) ≡ n / 256 ^ suc i / 256 = rw (pow-suc 256 (suc i), div-div-eq-div-mul) in
    ap (λ (r : List ℕ). n / 256 ^ suc i % 256 ∷ r) (bytes-le (suc (suc i)) w n ∙ ap (le w) next)

pub bytes-le-all : (w n : ℕ) → bytes_low_first 0 w n ≡ le w n
bytes-le-all w n = bytes-le 0 w n ∙ ap (le w) (div-one n)

-- w bytes are stored
pub put-part : (at w : ℕ) (bs part bytes : List ℕ) → part ≡ bytes → put_mid at (at + w - at) bs part ≡ take at bs ++ bytes ++ drop (at + w) bs
put-part at w bs part bytes e = rw (e, add-sub_cancel_left at w, drop-drop, append_assoc)

-- a number of a + b bytes is a number of a bytes and one of b bytes

value-append : (xs ys : List ℕ) → value (xs ++ ys) ≡ value xs + 256 ^ length xs * value ys
unfolding value
value-append [] ys = omega arith
value-append (x ∷ xs) ys =
    rw pow-suc (omega (arith, value-append xs ys, mul_comm (256 ^ length xs) 256, mul_assoc 256 (256 ^ length xs) (value ys)))

pub field-add : (bs : List ℕ) (at a b : ℕ) → at + a ≤ length bs → field bs at (a + b) ≡ field bs at a + 256 ^ a * field bs (at + a) b
unfolding field
field-add bs at a b h =
    rw (take-add, drop-drop, value-append, length_part at a bs h)

pub field-eight : (bs : List ℕ) (at : ℕ) → at + 8 ≤ length bs
    → from_le_bytes w64 (get_or bs at 0 ∷ get_or bs (at + 1) 0 ∷ get_or bs (at + 2) 0 ∷ get_or bs (at + 3) 0 ∷ get_or bs (at + 4) 0 ∷ get_or bs (at + 5) 0 ∷ get_or bs (at + 6) 0 ∷ get_or bs (at + 7) 0 ∷ [])
    ≡ field bs at 8
field-eight bs at h =
    omega (
      arith,
      field-add bs at 4 4 (omega arith),
      field-of-four bs at (at + 1) (at + 2) (at + 3) (at + 4) refl refl refl refl (omega arith),
      field-of-four bs (at + 4) (at + 5) (at + 6) (at + 7) (at + 8) (omega arith) (omega arith) (omega arith) (omega arith) h,
    )

-- reading a byte

pub field-byte : (bs : List ℕ) (at : ℕ) → at < length bs → field bs at 1 ≡ get_or bs at 0
unfolding field value
field-byte bs at h = rw (drop-cons bs at 0) (omega arith)

-- reading and writing in place

pub le-field : (bs : List ℕ) (at w : ℕ) → AllBytes bs → at + w ≤ length bs → le w (field bs at w) ≡ take w (drop at bs)
unfolding field
le-field bs at w b h =
    rw (length_part at w bs h) at (le-value (take w (drop at bs)) (bytes_take w (drop at bs) (bytes_drop at bs b)))

pub les-fields : (bs : List ℕ) (at w n : ℕ) → AllBytes bs → at + w * n ≤ length bs → les w (fields bs at w n) ≡ take (w * n) (drop at bs)
unfolding les fields
les-fields bs at w zero b h = rw mul-zero
les-fields bs at w (suc n) b h =
    let s : w * suc n ≡ w + w * n = omega (arith, mul-suc w n) in
    rw (s, take-add, drop-drop) (ap₂ ◌++◌ (le-field bs at w b (omega arith)) (les-fields bs (at + w) w n b (omega arith)))

pub field-le : (xs ys : List ℕ) (at w n : ℕ) → length xs ≡ at → n < 256 ^ w → field (xs ++ le w n ++ ys) at w ≡ n
unfolding field
field-le xs ys at w n l h = rw (append_assoc, drop_at xs (le w n ++ ys) at l, take_at (le w n) ys w (length-le w n)) (value-le w n h)

pub fields-les : (xs ys : List ℕ) (at w : ℕ) (ns : List ℕ) → length xs ≡ at → Each (λ m. m < 256 ^ w) ns
    → fields (xs ++ les w ns ++ ys) at w (length ns) ≡ ns
unfolding les fields Each
fields-les xs ys at w [] l h = refl
fields-les xs ys at w (n ∷ ns) l h =
    let first : xs ++ (le w n ++ les w ns) ++ ys ≡ xs ++ le w n ++ (les w ns ++ ys) = simp append_assoc in
    let later : xs ++ (le w n ++ les w ns) ++ ys ≡ xs ++ le w n ++ les w ns ++ ys = simp append_assoc in
    let next : length (xs ++ le w n) ≡ at + w = omega (arith, length-append xs (le w n), length-le w n) in
    ap₂ ◌∷◌ (ap (λ (bs : List ℕ). field bs at w) first ∙ field-le xs (les w ns ++ ys) at w n l h.0)
    (ap (λ (bs : List ℕ). fields bs (at + w) w (length ns)) later ∙ fields-les (xs ++ le w n) ys (at + w) w ns next h.1)

pub fields-below : (bs : List ℕ) (at w n : ℕ) → AllBytes bs → Each (λ m. m < 256 ^ w) (fields bs at w n)
unfolding fields Each
fields-below bs at w zero b = tt
fields-below bs at w (suc n) b = (rw pow-bytes (field_below bs at w b), fields-below bs (at + w) w n b)

pub get_d-fields : (bs : List ℕ) (at w n j : ℕ) → j < n → get_or (fields bs at w n) j 0 ≡ field bs (at + w * j) w
unfolding fields
get_d-fields bs at w zero j h = absurd (omega arith)
get_d-fields bs at w (suc n) zero h = rw (mul-zero, add-zero)
get_d-fields bs at w (suc n) (suc j) h =
    let e : at + w + w * j ≡ at + w * suc j = omega (arith, mul-suc w j) in
    get_d-fields bs (at + w) w n j (omega arith) ∙ ap (λ (k : ℕ). field bs k w) e

pub part-take : (at w m : ℕ) (bs : List ℕ) → at + w ≤ m → take w (drop at (take m bs)) ≡ take w (drop at bs)
part-take zero w m bs h = take-take w m bs (omega arith)
part-take (suc at) w zero bs h = absurd (omega arith)
part-take (suc at) w (suc m) [] h = refl
part-take (suc at) w (suc m) (x ∷ bs) h = part-take at w m bs (omega arith)

pub field-take : (bs : List ℕ) (m at w : ℕ) → at + w ≤ m → field (take m bs) at w ≡ field bs at w
unfolding field
field-take bs m at w h = rw (part-take at w m bs h)

pub field-drop : (bs : List ℕ) (m at w : ℕ) → field (drop m bs) at w ≡ field bs (m + at) w
unfolding field
field-drop bs m at w = rw drop-drop

-- a number in a part of a file, in place
pub field-part : (bs : List ℕ) (from m at w : ℕ) → at + w ≤ m → field (take m (drop from bs)) at w ≡ field bs (from + at) w
field-part bs from m at w h = field-take (drop from bs) m at w h ∙ field-drop bs from at w

-- comparing

pub same-le : (w n : ℕ) (bs : List ℕ) → AllBytes bs → length bs ≡ w → n < 256 ^ w → same_list bs (le w n) ≡ eqb (value bs) n
same-le w n bs b l h =
    same-eqb bs (le w n) (value bs) n
    (λ e. sym (le-value bs b) ∙ ap₂ le l e, λ e. ap value e ∙ value-le w n h)

pub same-field : (bs : List ℕ) (at w n : ℕ) → AllBytes bs → at + w ≤ length bs → n < 256 ^ w
    → same_list (take w (drop at bs)) (le w n) ≡ eqb (field bs at w) n
unfolding field
same-field bs at w n b l h =
    same-le w n (take w (drop at bs)) (bytes_take w (drop at bs) (bytes_drop at bs b)) (length_part at w bs l) h

-- zeros

zeros-le : (w : ℕ) → replicate w 0 ≡ le w 0
unfolding le
zeros-le zero = refl
zeros-le (suc w) = ap (◌∷◌ 0) (zeros-le w)

-- w bytes are zeros just where their number is 0
pub zeros-number : (w : ℕ) (bs : List ℕ) (at : ℕ) → AllBytes bs → at + w ≤ length bs → zeros_between bs at (at + w) ≡ eqb (field bs at w) 0
zeros-number w bs at b h =
    let s : at + w - at ≡ w = omega arith in
    rw (s, zeros-le) (same-field bs at w 0 b h (pow_pos w))

-- there are no bytes
pub zeros-none : (bs : List ℕ) (i to : ℕ) → to ≤ i → zeros_between bs i to ≡ true
unfolding same_list
zeros-none bs i to h =
    let s : to - i ≡ 0 = omega arith in
    rw s

-- the bytes up to one of them, and those from it on
pub zeros-split : (bs : List ℕ) (i mid to : ℕ) → i ≤ mid → mid ≤ to → to ≤ length bs → zeros_between bs i to ≡ (zeros_between bs i mid && zeros_between bs mid to)
zeros-split bs i mid to h k l =
    let s : to - i ≡ mid - i + (to - mid) = omega arith in
    let m : i + (mid - i) ≡ mid = omega arith in
    rw (s, take-add, drop-drop, m, ← replicate-append-replicate)
    (same-append (take (mid - i) (drop i bs)) (replicate (mid - i) 0) _ _ (rw length-replicate (length_part i (mid - i) bs (omega arith))))

-- each byte is zero
pub zeros-all : (bs : List ℕ) → list_all (λ b. eqb b 0) bs ≡ same_list bs (replicate (length bs) 0)
unfolding same_list
zeros-all [] = refl
zeros-all (b ∷ bs) = ap (λ (rest : Bool). eqb b 0 && rest) (zeros-all bs)

pub zeros-rest : (bs : List ℕ) (i to : ℕ) → i ≤ to → to ≤ length bs → list_all (λ b. eqb b 0) (take (to - i) (drop i bs)) ≡ zeros_between bs i to
zeros-rest bs i to h l =
    let long : length (take (to - i) (drop i bs)) ≡ to - i = length_part i (to - i) bs (omega arith) in
    rw long at (zeros-all (take (to - i) (drop i bs)))
