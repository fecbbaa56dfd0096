-- The lines of a text, told from its first bytes: those before a line feed, those of a line that is not ended, and which beginnings make a
-- line right or malformed, whatever follows.
-- Assumes nothing.
use Prim.Native.Nat.{ℕ, zero, suc, ◌+◌, ◌*◌, ◌^◌, ◌<◌, ◌≤◌}
use mathlib.Core.Path.{◌≡◌, refl, sym, ◌∙◌}
use mathlib.Core.Bool.{Bool, true, false, cond, ◌&&◌, and-false, and-eq-true_iff, false≢true}
use mathlib.Core.Logic.{by_cases}
use mathlib.Core.List.{List, [], ◌∷◌, ◌++◌, append_assoc}
use native.Mathlib.Nat.{add-zero, add-suc, suc-add, mod-eq_of_lt, pow-succ', pow-le-pow_right}
use native.Mathlib.Decide.{dec_le}
use native.Mathlib.Omega.{arith}
use borrow.Author.Tests.{le-leb, lt-leb, leb-true}
use lib.Dec.{eqb, leb}
use lib.ListN.{length, drop, length-append}
use lib.Seq.{drop-append_seam, drop-length}
use Rattle.model.specs.Lists.{same_list}
use Rattle.block.specs.Bytes.{Each}
use Rattle.block.proofs.Each.{each_append}
use Rattle.tracing.specs.Din.{line_feed, in_front, lines_of, is_label, is_space, is_hex, digit_of, digits_of, address_right, line_right, hex_from, address_of}
use Rattle.tracing.specs.Scans.{right_at, ends_at, with_digit}
use Rattle.tracing.proofs.Digits.{digit-small}
use Rattle.tracing.proofs.Columns.{label-right, space-right, digit-right, none_right, no_digit, one-digit}

-- no byte is a line feed
abbrev pub Open : List ℕ → Type 0
Open p = Each (λ b. eqb b line_feed ≡ false) p

-- a line feed ends the first line
pub line-ended : (p bs : List ℕ) → Open p → lines_of (p ++ line_feed ∷ bs) ≡ (p ++ (line_feed ∷ [])) ∷ lines_of bs
unfolding lines_of in_front Each
line-ended [] bs o = refl
line-ended (b ∷ p) bs o = rw (o.0, line-ended p bs o.1)

-- without one there is one line
pub line-open : (b : ℕ) (p : List ℕ) → Open (b ∷ p) → lines_of (b ∷ p) ≡ (b ∷ p) ∷ []
unfolding lines_of in_front Each
line-open b [] o = rw o.0
line-open b (c ∷ p) o = rw (o.0, line-open c p o.1)

-- some bytes begin the first of some lines
pub record Begins (p : List ℕ) (lines : List (List ℕ)) : Type 0 where
  pub rest : List ℕ
  pub others : List (List ℕ)
  pub is : lines ≡ (p ++ rest) ∷ others

begins-one : (b : ℕ) (lines : List (List ℕ)) → Begins (b ∷ []) (in_front b lines)
unfolding in_front
begins-one b [] = record { rest = []; others = []; is = refl }
begins-one b (l ∷ ls) = record { rest = l; others = ls; is = refl }

pub begins : (b : ℕ) (p bs : List ℕ) → Open (b ∷ p) → Begins (b ∷ p) (lines_of ((b ∷ p) ++ bs))
unfolding lines_of in_front Each
begins b [] bs o = rw o.0 (begins-one b (lines_of bs))
begins b (c ∷ p) bs o =
    let later = begins c p bs o.1 in
    record { rest = later.rest; others = later.others; is = rw (o.0, later.is) }

-- digits

abbrev Digits : List ℕ → Type 0
Digits ds = Each (λ d. is_hex d ≡ true) ds

-- a byte that is none ends the digits
digits-end : (ds : List ℕ) (b : ℕ) (q : List ℕ) → Digits ds → is_hex b ≡ false → digits_of (ds ++ b ∷ q) ≡ ds
unfolding digits_of Each
digits-end [] b q h e = rw e
digits-end (d ∷ ds) b q h e = rw (h.0, digits-end ds b q h.1 e)

digits-all : (ds : List ℕ) → Digits ds → digits_of ds ≡ ds
unfolding digits_of Each
digits-all [] h = refl
digits-all (d ∷ ds) h = rw (h.0, digits-all ds h.1)

-- digits in front of some bytes are among their digits
digits-least : (ds q : List ℕ) → Digits ds → length ds ≤ length (digits_of (ds ++ q))
unfolding digits_of Each
digits-least [] q h = omega arith
digits-least (d ∷ ds) q h = rw h.0 (omega (arith, digits-least ds q h.1))

hex-snoc : (n b : ℕ) (ds : List ℕ) → hex_from n (ds ++ (b ∷ [])) ≡ hex_from n ds * 16 + digit_of b
unfolding hex_from
hex-snoc n b [] = refl
hex-snoc n b (d ∷ ds) = hex-snoc (n * 16 + digit_of d) b ds

hex-below : (k n : ℕ) (ds : List ℕ) → n < 16 ^ k → Digits ds → hex_from n ds < 16 ^ (k + length ds)
unfolding hex_from Each
hex-below k n [] l h = rw add-zero l
hex-below k n (d ∷ ds) l h =
    rw (add-suc, ← suc-add) (hex-below (suc k) (n * 16 + digit_of d) ds (rw pow-succ' (omega (arith, digit-small d h.0))) h.1)

-- what a scan knows of a line that it has begun: nothing, a label, or a label, a space and up to 8 digits
pub data Begun (column address : ℕ) (p : List ℕ) : Type 0 where
  nothing : column ≡ 0 → address ≡ 0 → p ≡ [] → Begun column address p
  label : (a : ℕ) → is_label a ≡ true → column ≡ 1 → address ≡ 0 → p ≡ a ∷ [] → Begun column address p
  digits : (a s : ℕ) (ds : List ℕ) → is_label a ≡ true → is_space s ≡ true → Digits ds → length ds ≤ 8 → column ≡ 2 + length ds
      → address ≡ hex_from 0 ds → p ≡ a ∷ s ∷ ds → Begun column address p

ends-count : (n : ℕ) → n ≤ 8 → (leb 1 n && leb n 8 && true) ≡ ends_at (2 + n)
unfolding ends_at
ends-count zero h = refl
ends-count (suc n) h = rw (le-leb 1 (suc n) (omega arith), le-leb (suc n) 8 h, le-leb 3 (2 + suc n) (omega arith), le-leb (2 + suc n) 10 (omega arith))

-- no digit behind the digits, or a ninth
address-broken : (ds : List ℕ) (b : ℕ) (q : List ℕ) → Digits ds → eqb b line_feed ≡ false → (is_hex b ≡ true → 8 ≤ length ds)
    → address_right ((ds ++ (b ∷ [])) ++ q) ≡ false
unfolding address_right same_list Each
address-broken ds b q h f n = go (is_hex b) refl
  where
    go : (t : Bool) → is_hex b ≡ t → address_right ((ds ++ (b ∷ [])) ++ q) ≡ false
    go false e = simp (append_assoc ds (b ∷ []) q, digits-end ds b q h e, drop-append_seam ds (b ∷ q), f, and-false)
    go true e =
        let all : Digits (ds ++ (b ∷ [])) = each_append (λ d. is_hex d ≡ true) ds (b ∷ []) h (e, tt) in
        let many : 8 < length (digits_of ((ds ++ (b ∷ [])) ++ q)) = omega (arith, n e, digits-least (ds ++ (b ∷ [])) q all, length-append ds (b ∷ [])) in
        simp (lt-leb _ 8 many, and-false)

module _ (column address : ℕ) (p : List ℕ) where
  -- the line ends right exactly where its column says so, and then it has the address
  pub ended-right : Begun column address p → line_right (p ++ (line_feed ∷ [])) ≡ ends_at column
  unfolding line_right address_right ends_at is_space is_hex same_list
  ended-right (nothing ec ea ep) = rw (ec, ep)
  ended-right (label a l ec ea ep) = rw (ec, ep, l)
  ended-right (digits a s ds l sp h n ec ea ep) =
      rw (ec, ep, l, sp, digits-end ds line_feed [] h refl, drop-append_seam ds (line_feed ∷ [])) (ends-count (length ds) n)

  pub ended-address : Begun column address p → ends_at column ≡ true → address_of (p ++ (line_feed ∷ [])) ≡ address
  unfolding address_of ends_at is_hex
  ended-address (nothing ec ea ep) e = absurd (false≢true (rw ec at e))
  ended-address (label a l ec ea ep) e = absurd (false≢true (rw ec at e))
  ended-address (digits a s ds l sp h n ec ea ep) e = rw (ep, digits-end ds line_feed [] h refl, ea)

  -- a line that is not ended is malformed
  pub open-wrong : Begun column address p → line_right p ≡ false
  unfolding line_right address_right same_list
  open-wrong (nothing ec ea ep) = rw ep
  open-wrong (label a l ec ea ep) = rw ep
  open-wrong (digits a s ds l sp h n ec ea ep) = simp (ep, l, sp, digits-all ds h, drop-length ds, and-false)

  -- one byte more that is right
  pub grown : (b : ℕ) → Begun column address p → right_at column b ≡ true → Begun (column + 1) (with_digit column address b) (p ++ (b ∷ []))
  unfolding Each hex_from
  grown b (nothing ec ea ep) e =
      label b (sym (label-right column b ec) ∙ e) (omega arith) (no_digit column address b (omega arith) ∙ ea) (rw ep)
  grown b (label a l ec ea ep) e =
      digits a b [] l (sym (space-right column b ec) ∙ e) tt (omega arith) (omega arith) (no_digit column address b (omega arith) ∙ ea) (rw ep)
  grown b (digits a s ds l sp h n ec ea ep) e = by_cases (dec_le column 9) more (λ w. absurd (false≢true (sym (none_right column b (omega arith)) ∙ e)))
    where
      more : column ≤ 9 → Begun (column + 1) (with_digit column address b) (p ++ (b ∷ []))
      more w =
          let hex : is_hex b ≡ true = sym (digit-right column b (omega arith) w) ∙ e in
          let small : address < 2 ^ 28 =
          omega (arith, ea, hex-below 0 0 ds (omega arith) h, pow-le-pow_right {n = 16} (omega arith) {i = 0 + length ds} {j = 7} (omega arith)) in
          digits a s (ds ++ (b ∷ [])) l sp (each_append (λ d. is_hex d ≡ true) ds (b ∷ []) h (hex, tt)) (rw length-append (omega arith))
          (rw length-append (omega arith))
          (one-digit column address b (omega arith) ∙ rw (mod-eq_of_lt small, ea, hex-snoc 0 b ds)) (rw ep)

  -- and one that is wrong: no line that begins so is right
  pub broken : (b : ℕ) → Begun column address p → eqb b line_feed ≡ false → right_at column b ≡ false → (q : List ℕ) → line_right ((p ++ (b ∷ [])) ++ q) ≡ false
  unfolding line_right
  broken b (nothing ec ea ep) f e q = rw ep (go q)
    where
      go : (q : List ℕ) → line_right (b ∷ q) ≡ false
      go [] = refl
      go (s ∷ r) = rw (sym (label-right column b ec) ∙ e)
  broken b (label a l ec ea ep) f e q = rw (ep, l, sym (space-right column b ec) ∙ e)
  broken b (digits a s ds l sp h n ec ea ep) f e q =
      rw (ep, l, sp)
      (address-broken ds b q h f
      (λ x. by_cases (dec_le column 9) (λ w. absurd (false≢true (sym e ∙ digit-right column b (omega arith) w ∙ x))) (λ w. omega arith)))

digits-hex : (bs : List ℕ) → Digits (digits_of bs)
unfolding digits_of Each
digits-hex [] = tt
digits-hex (b ∷ bs) = go (is_hex b) refl (digits-hex bs)
  where
    go : (t : Bool) → is_hex b ≡ t → Digits (digits_of bs) → Digits (cond t (b ∷ digits_of bs) [])
    go true e h = (e, h)
    go false e h = tt

-- the address of a right line has 32 bits
pub right-small : (line : List ℕ) → line_right line ≡ true → address_of line < 2 ^ 32
unfolding line_right address_right address_of
right-small [] e = absurd (false≢true e)
right-small (a ∷ []) e = absurd (false≢true e)
right-small (a ∷ s ∷ bs) e =
    let n : ℕ = length (digits_of bs) in
    let address = ((and-eq-true_iff (is_label a && is_space s) (address_right bs)).0 e).1 in
    let count = ((and-eq-true_iff (leb 1 n && leb n 8) (same_list (drop n bs) (line_feed ∷ []))).0 address).0 in
    let few : n ≤ 8 = leb-true _ _ ((and-eq-true_iff (leb 1 n) (leb n 8)).0 count).1 in
    omega (arith, hex-below 0 0 (digits_of bs) (omega arith) (digits-hex bs), pow-le-pow_right {n = 16} (omega arith) {i = 0 + n} {j = 8} (omega arith))
