-- The text of a task, read: its lines are those that were written, and their words the word and the numbers.
-- Assumes nothing.
use Prim.Native.Nat.{ℕ, ◌<◌}
use mathlib.Core.Path.{◌≡◌, refl, ap, ap₂, ◌∙◌}
use mathlib.Core.Bool.{Bool, true, false, and-eq-true_iff}
use mathlib.Core.List.{List, [], ◌∷◌, ◌++◌, map, append_assoc}
use native.Mathlib.Omega.{arith}
use borrow.Author.Tests.{leb-true, le-leb, ne_eqb}
use lib.Dec.{eqb, leb}
use lib.ListN.{length}
use Rattle.block.specs.Bytes.{Each}
use Rattle.decimals.specs.Decimals.{is_digit, all_digits, value, spelled}
use Rattle.decimals.proofs.Spelling.{Spells, spelled-spells}
use Rattle.showing.specs.Text.{line_feed, spaced, line_text}
use Rattle.assembling.specs.Words.{is_blank, is_hash, is_word_byte, is_line_byte, lines_of, goes_on, words_of}
use Rattle.assembling.specs.Drafts.{is_number, all_numbers}
use Rattle.assembling.specs.Steps.{all_are}
use Rattle.assembling.specs.Limits.{Small}
use Rattle.assembling.proofs.Spans.{word_cut, line-cut}

-- a digit is a byte of a word and of a line

digit-bytes : (b : ℕ) → is_digit b ≡ true → (is_word_byte b ≡ true) × (is_line_byte b ≡ true)
unfolding is_word_byte is_blank is_hash is_line_byte
digit-bytes b h =
    let both = (and-eq-true_iff (leb 48 b) (leb b 57)).0 h in
    let low = leb-true 48 b both.0 in
    let other : (n : ℕ) → n < 48 → eqb b n ≡ false = λ n l. ne_eqb b n (λ (e : b ≡ n). omega arith) in (
      rw (other 32 (omega arith), other 9 (omega arith), other 13 (omega arith), other 35 (omega arith)) refl,
      rw (other 10 (omega arith)) refl,
    )

digits_are : (xs : List ℕ) → all_digits xs ≡ true → (all_are is_word_byte xs ≡ true) × (all_are is_line_byte xs ≡ true)
unfolding all_digits all_are
digits_are [] h = (refl, refl)
digits_are (x ∷ xs) h =
    let both = (and-eq-true_iff (is_digit x) (all_digits xs)).0 h in
    let here = digit-bytes x both.0 in
    let rest = digits_are xs both.1 in
    (rw (here.0, rest.0) refl, rw (here.1, rest.1) refl)

all_append : (f : ℕ → Bool) (xs ys : List ℕ) → all_are f xs ≡ true → all_are f ys ≡ true → all_are f (xs ++ ys) ≡ true
unfolding all_are
all_append f [] ys h k = k
all_append f (x ∷ xs) ys h k =
    let both = (and-eq-true_iff (f x) (all_are f xs)).0 h in
    rw both.0 (all_append f xs ys both.1 k)

small-spells : (n : ℕ) → Small n → Spells n (spelled n)
small-spells n h = spelled-spells n (omega arith)

-- numbers behind spaces end no line, and their words are the numbers

spaced-line : (ns : List ℕ) → Each Small ns → all_are is_line_byte (spaced ns) ≡ true
unfolding spaced all_are is_line_byte Each
spaced-line [] e = refl
spaced-line (n ∷ ns) e = all_append is_line_byte (spelled n) (spaced ns) (digits_are (spelled n) (small-spells n e.0).digits).1 (spaced-line ns e.1)

spaced-ends : (ns : List ℕ) → goes_on (spaced ns) ≡ false
unfolding spaced goes_on is_word_byte is_blank
spaced-ends [] = refl
spaced-ends (n ∷ ns) = refl

word_first : (w rest : List ℕ) → 0 < length w → all_are is_word_byte w ≡ true → goes_on rest ≡ false → words_of (w ++ rest) ≡ w ∷ words_of rest
word_first [] rest h a g = absurd (omega arith)
word_first (x ∷ xs) rest h a g = word_cut x xs rest a g

spaced-words : (ns : List ℕ) → Each Small ns → words_of (spaced ns) ≡ map spelled ns
unfolding spaced words_of is_hash is_blank Each
spaced-words [] e = refl
spaced-words (n ∷ ns) e =
    let s = small-spells n e.0 in
    word_first (spelled n) (spaced ns) s.some (digits_are (spelled n) s.digits).0 (spaced-ends ns) ∙ ap (λ (ws : List (List ℕ)). spelled n ∷ ws) (spaced-words ns e.1)

spelled-numbers : (ns : List ℕ) → Each Small ns → all_numbers (map spelled ns) ≡ true
unfolding all_numbers is_number Each
spelled-numbers [] e = refl
spelled-numbers (n ∷ ns) e =
    let s = small-spells n e.0 in
    rw (s.digits, le-leb (value (spelled n)) 4294967295 (omega (arith, s.says)), spelled-numbers ns e.1) refl

pub spelled-values : (ns : List ℕ) → Each Small ns → map value (map spelled ns) ≡ ns
unfolding Each
spelled-values [] e = refl
spelled-values (n ∷ ns) e = ap₂ (λ (m : ℕ) (ms : List ℕ). m ∷ ms) (small-spells n e.0).says (spelled-values ns e.1)

-- a line that is written

module _ (w ns rest : List ℕ) (some : 0 < length w) (word : all_are is_word_byte w ≡ true) (line : all_are is_line_byte w ≡ true) (small : Each Small ns) where
  pub line_read : lines_of (line_text w ns ++ rest) ≡ (w ++ spaced ns) ∷ lines_of rest
  unfolding line_text
  line_read =
      rw (append_assoc w (spaced ns ++ (line_feed ∷ [])) rest, append_assoc (spaced ns) (line_feed ∷ []) rest, ← append_assoc w (spaced ns) (line_feed ∷ rest))
      (line-cut (w ++ spaced ns) rest (all_append is_line_byte w (spaced ns) line (spaced-line ns small)))

  pub words-read : words_of (w ++ spaced ns) ≡ w ∷ map spelled ns
  words-read = word_first w (spaced ns) some word (spaced-ends ns) ∙ ap (λ (ws : List (List ℕ)). w ∷ ws) (spaced-words ns small)

  pub numbers-read : all_numbers (map spelled ns) ≡ true
  numbers-read = spelled-numbers ns small
