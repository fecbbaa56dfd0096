-- The words of a set of lines. `words` and `in_words` undo each other, so words that hold the same lines are equal.
-- Assumes nothing.
use mathlib.Core.Bool.{false}
use mathlib.Core.List.{List}
use mathlib.Core.Path.{◌≡◌, refl, sym, ap, ◌∙◌, fun_ext}
use Prim.Native.Nat.{ℕ, zero, suc, ◌+◌, ◌*◌, ◌/◌, ◌%◌, ◌^◌, ◌≤◌, ◌<◌}
use native.Mathlib.Nat.{le_of_suc-le-suc, not-suc-le-zero, zero-add, add-zero, add_assoc, div-add-mod'}
use native.Mathlib.Omega.{arith}
use lib.Arith.{digits_div, digits_mod}
use lib.Count.{ones}
use lib.ListN.{length, get_or, get_or-eq_default}
use lib.Pow.{pow_pos}
use lib.Seq.{ext_get_or}
use mir.Syntax.{w64}
use mir.Val.{Fits}
use Rattle.model.specs.Sets.{Lines, size, count_below, table, digit, word, words, in_words}
use Rattle.model.specs.Laws.{WordsHold, SizeIsOnes, one_bits}
use Rattle.model.proofs.Digits.{digit-of-zero, digit-digits, digits-agree, digits-digit, digits_lt, count_add, count-agree, count_ones}

-- eight words of 64 digits
pub record Eight (ws : List ℕ) : Type 0 where
  pub eight : length ws ≡ 8
  pub small : (k : ℕ) → get_or ws k 0 < 2 ^ 64

-- what is known of a machine word: `search (needs, fits_word)` proves `Eight` of a parameter's words and of a call's result
pub fits_word : {n : ℕ} → Fits w64 n → n < 2 ^ 64
fits_word h = h.fits

word_lt : (s : Lines) (k : ℕ) → word s k < 2 ^ 64
unfolding word
word_lt s k = digits_lt 64 (λ j. s (k * 64 + j))

-- the first n values of a function
pub table-length : (n : ℕ) (f : ℕ → ℕ) → length (table n f) ≡ n
unfolding table
table-length zero f = refl
table-length (suc n) f = ap suc (table-length n (λ k. f (suc k)))

pub table_at : (n : ℕ) (f : ℕ → ℕ) (k : ℕ) → k < n → get_or (table n f) k 0 ≡ f k
unfolding table
table_at zero f k h = absurd (not-suc-le-zero h)
table_at (suc n) f zero h = refl
table_at (suc n) f (suc k) h = table_at n (λ i. f (suc i)) k (le_of_suc-le-suc h)

table-lt : (n : ℕ) {f : ℕ → ℕ} (b : ℕ) → 0 < b → ((k : ℕ) → f k < b) → (k : ℕ) → get_or (table n f) k 0 < b
unfolding table
table-lt zero b p h k = p
table-lt (suc n) b p h zero = h 0
table-lt (suc n) b p h (suc k) = table-lt n b p (λ i. h (suc i)) k

words-table : (s : Lines) → words s ≡ table 8 (word s)
unfolding words table
words-table s = refl

-- a line of word k is a digit of that word
pub in-word : (ws : List ℕ) (k j : ℕ) → j < 64 → in_words ws (k * 64 + j) ≡ digit (get_or ws k 0) j
unfolding in_words
in-word ws k j h = rw (digits_div k h, digits_mod k h)

-- the set of a set's words is the set, below 512
pub words-hold : WordsHold
unfolding in_words word
words-hold s c h =
    rw (words-table, table_at 8 (word s) (c / 64) (omega arith))
    (rw (digit-digits 64 (λ j. s (c / 64 * 64 + j)) (c % 64) (omega arith), div-add-mod'))

-- eight words hold no line from 512 on
pub in-eight-above : (ws : List ℕ) → length ws ≡ 8 → (c : ℕ) → 512 ≤ c → in_words ws c ≡ false
unfolding in_words
in-eight-above ws e c h = rw (get_or-eq_default ws 0 {n = c / 64} (omega arith)) (digit-of-zero (c % 64))

pub words-eight : (s : Lines) → Eight (words s)
words-eight s = record {
  eight = rw words-table (table-length 8 (word s));
  small = rw words-table (table-lt 8 (2 ^ 64) (pow_pos 64) (word_lt s));
}

-- a list is a set's words where each of its eight words is
pub words_are : (s : Lines) {ws : List ℕ} → length ws ≡ 8 → ((k : ℕ) → k < 8 → word s k ≡ get_or ws k 0) → words s ≡ ws
words_are s {ws} e h =
    ext_get_or 0 (words s) ws ((words-eight s).eight ∙ sym e)
    (λ k l. let l8 : k < 8 = omega (arith, (words-eight s).eight) in rw (words-table, table_at 8 (word s) k l8) (h k l8))

-- the words of the set that eight words hold are those words
pub words-in : {ws : List ℕ} → Eight ws → words (in_words ws) ≡ ws
unfolding word
words-in {ws} h =
    words_are (in_words ws) h.eight
    (λ k l. digits-agree 64 (in-word ws k) ∙ digits-digit 64 (get_or ws k 0) (h.small k))

-- sets that agree below 512 have the same words and the same size
pub words-agree : {s t : Lines} → ((c : ℕ) → c < 512 → s c ≡ t c) → words s ≡ words t
unfolding word
words-agree {s} {t} h =
    words_are s (words-eight t).eight
    (λ k l. digits-agree 64 (λ j m. h (k * 64 + j) (omega arith)) ∙ rw (words-table, table_at 8 (word t) k l))

pub size-agree : {s t : Lines} → ((c : ℕ) → c < 512 → s c ≡ t c) → size s ≡ size t
size-agree h = count-agree 512 h

-- the lines of a set counted word by word

ones-word : (s : Lines) (w : ℕ) → ones (word s w) ≡ count_below 64 (λ j. s (w * 64 + j))
unfolding word
ones-word s w =
    count_ones 64 (word s w) (word_lt s w) ∙ count-agree 64 (digit-digits 64 (λ j. s (w * 64 + j)))

ones-from : (n k : ℕ) (s : Lines) → count_below ((k + n) * 64) s ≡ count_below (k * 64) s + one_bits (table n (λ i. word s (k + i)))
unfolding table one_bits
ones-from zero k s = simp add-zero
ones-from (suc n) k s =
    let e : (k + suc n) * 64 ≡ (suc k + n) * 64 = omega arith in
    let f : suc k * 64 ≡ k * 64 + 64 = omega arith in
    let g : ◌≡◌ {A = ℕ → ℕ} (λ i. word s (suc k + i)) (λ i. word s (k + suc i)) = fun_ext (λ i. ap (word s) (omega arith)) in
    rw (e, ones-from n (suc k) s, f, count_add, ← ones-word s k, add-zero, g) (add_assoc _ _ _)

pub size-is-ones : SizeIsOnes
unfolding count_below table words
size-is-ones s = ones-from 8 0 s ∙ zero-add _
