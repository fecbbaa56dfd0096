-- Runs of bytes of one kind, and how they cut a text into lines and a line into words.
-- Assumes nothing.
use Prim.Native.Nat.{ℕ, suc, ◌<◌}
use mathlib.Core.Path.{◌≡◌, refl, sym, ap, ◌∙◌}
use mathlib.Core.Bool.{Bool, true, false, not, ◌&&◌, and-eq-true_iff, false≢true}
use mathlib.Core.List.{List, [], ◌∷◌, ◌++◌, append-nil}
use native.Mathlib.Omega.{arith}
use lib.Dec.{eqb}
use borrow.Author.Tests.{eqb-true}
use lib.ListN.{length, get_or, drop, length-append}
use Rattle.showing.specs.Text.{line_feed}
use Rattle.assembling.specs.Words.{is_blank, is_hash, is_word_byte, is_line_byte, in_front, lines_of, goes_on, words_of}
use Rattle.assembling.specs.Steps.{all_are, Splits, FirstWord}

-- the bytes of a run by a test f
pub record Run (f : ℕ → Bool) (bytes run rest : List ℕ) : Type 0 where
  pub whole : run ++ rest ≡ bytes
  pub all : all_are f run ≡ true
  pub ends : 0 < length rest → f (get_or rest 0 0) ≡ false

each-right : (f : ℕ → Bool) (run : List ℕ) → ((k : ℕ) → k < length run → f (get_or run k 0) ≡ true) → all_are f run ≡ true
unfolding all_are
each-right f [] h = refl
each-right f (x ∷ xs) h =
    let first : f x ≡ true = h 0 (omega arith) in
    rw first (each-right f xs (λ k l. h (suc k) (omega arith)))

pub run_of : (f : ℕ → Bool) (bytes run rest : List ℕ) → Splits (λ b t. t ≡ f b) bytes run rest → Run f bytes run rest
run_of f bytes run rest s =
    record { whole = s.whole; all = each-right f run (λ k h. sym (s.all k h)); ends = λ h. sym (s.ends h) }

-- bytes of a word are neither blanks nor the beginning of a comment, and blanks aren't either

blank-no-hash : (b : ℕ) → is_blank b ≡ true → is_hash b ≡ false
unfolding is_blank is_hash
blank-no-hash b h = go (eqb b 35) refl
  where
    go : (z : Bool) → eqb b 35 ≡ z → z ≡ false
    go false e = refl
    go true e = absurd (false≢true (rw (eqb-true b 35 e) at h))

word_byte : (b : ℕ) → is_word_byte b ≡ true → (is_blank b ≡ false) × (is_hash b ≡ false)
unfolding is_word_byte
word_byte b h = go (is_blank b) (is_hash b) h
  where
    go : (x y : Bool) → (not x && not y) ≡ true → (x ≡ false) × (y ≡ false)
    go false false e = (refl, refl)
    go false true e = absurd (false≢true e)
    go true y e = absurd (false≢true e)

hash-byte : (b : ℕ) → is_word_byte b ≡ false → is_blank b ≡ false → is_hash b ≡ true
unfolding is_word_byte
hash-byte b h k = go (is_hash b) (rw k at h)
  where
    go : (y : Bool) → not y ≡ false → y ≡ true
    go true e = refl
    go false e = absurd (false≢true (sym e))

-- the words behind blanks
pub blanks-skipped : (xs rest : List ℕ) → all_are is_blank xs ≡ true → words_of (xs ++ rest) ≡ words_of rest
unfolding all_are words_of
blanks-skipped [] rest h = refl
blanks-skipped (x ∷ xs) rest h =
    let both = (and-eq-true_iff (is_blank x) (all_are is_blank xs)).0 h in
    rw (blank-no-hash x both.0, both.0) (blanks-skipped xs rest both.1)

-- a word, and those behind it
pub word_cut : (x : ℕ) (xs rest : List ℕ) → all_are is_word_byte (x ∷ xs) ≡ true → goes_on rest ≡ false → words_of (x ∷ (xs ++ rest)) ≡ (x ∷ xs) ∷ words_of rest
unfolding all_are words_of goes_on in_front
word_cut x [] rest h g =
    let byte = word_byte x ((and-eq-true_iff (is_word_byte x) true).0 h).0 in
    rw (byte.1, byte.0, g)
word_cut x (y ∷ ys) rest h g =
    let both = (and-eq-true_iff (is_word_byte x) (all_are is_word_byte (y ∷ ys))).0 h in
    let next = ((and-eq-true_iff (is_word_byte y) (all_are is_word_byte ys)).0 both.1).0 in
    let byte = word_byte x both.0 in
    rw (byte.1, byte.0, next, word_cut y ys rest both.1 g)

-- where a run ends no byte of it follows
stops : (l : List ℕ) → (0 < length l → is_word_byte (get_or l 0 0) ≡ false) → goes_on l ≡ false
unfolding goes_on
stops [] h = refl
stops (x ∷ xs) h = h (omega arith)

-- behind blanks, bytes that begin with none of a word have no word
ended : (l : List ℕ) → (0 < length l → is_blank (get_or l 0 0) ≡ false) → (0 < length l → is_word_byte (get_or l 0 0) ≡ false) → words_of l ≡ []
unfolding words_of
ended [] b w = refl
ended (x ∷ xs) b w =
    let blank : is_blank x ≡ false = b (omega arith) in
    let word : is_word_byte x ≡ false = w (omega arith) in
    rw (hash-byte x word blank) refl

pub nothing : (l : List ℕ) → length l ≡ 0 → l ≡ []
nothing [] e = refl
nothing (x ∷ xs) e = absurd (omega arith)

-- a run of blanks and then one of a word's bytes are the first word, if it has one
module _ {line blanks rest word left : List ℕ} (first : Run is_blank line blanks rest) (second : Run is_word_byte rest word left) where
  skipped : words_of line ≡ words_of rest
  skipped = ap words_of (sym first.whole) ∙ blanks-skipped blanks rest first.all

  pub first_word : 0 < length word → FirstWord line word left
  first_word h =
      record {
        some = h;
        words = skipped ∙ ap words_of (sym second.whole) ∙ go word h second.all;
        shorter = omega (arith, ap length first.whole, ap length second.whole, length-append blanks rest, length-append word left);
      }
    where
      go : (w : List ℕ) → 0 < length w → all_are is_word_byte w ≡ true → words_of (w ++ left) ≡ w ∷ words_of left
      go [] l a = absurd (omega arith)
      go (x ∷ xs) l a = word_cut x xs left a (stops left second.ends)

  pub no_word : length word ≡ 0 → words_of line ≡ []
  no_word h =
      let same : left ≡ rest = ap (λ (w : List ℕ). w ++ left) (sym (nothing word h)) ∙ second.whole in
      skipped ∙ ended rest first.ends (rw same at second.ends)

-- a line, and those behind it

line-byte : (b : ℕ) → is_line_byte b ≡ false → eqb b line_feed ≡ true
unfolding is_line_byte
line-byte b h = go (eqb b line_feed) h
  where
    go : (z : Bool) → not z ≡ false → z ≡ true
    go true e = refl
    go false e = absurd (false≢true (sym e))

pub line-cut : (xs rest : List ℕ) → all_are is_line_byte xs ≡ true → lines_of (xs ++ (line_feed ∷ rest)) ≡ xs ∷ lines_of rest
unfolding all_are lines_of in_front is_line_byte
line-cut [] rest h = refl
line-cut (x ∷ xs) rest h =
    let both = (and-eq-true_iff (is_line_byte x) (all_are is_line_byte xs)).0 h in
    rw (both.0, line-cut xs rest both.1)

line-last : (x : ℕ) (xs : List ℕ) → all_are is_line_byte (x ∷ xs) ≡ true → lines_of (x ∷ xs) ≡ (x ∷ xs) ∷ []
unfolding all_are lines_of in_front
line-last x [] h = rw ((and-eq-true_iff (is_line_byte x) true).0 h).0
line-last x (y ∷ ys) h =
    let both = (and-eq-true_iff (is_line_byte x) (all_are is_line_byte (y ∷ ys))).0 h in
    rw (both.0, line-last y ys both.1)

-- the first line of a text that has a byte, and those behind its line feed
pub first-line : {text line left : List ℕ} → 0 < length text → Run is_line_byte text line left → lines_of text ≡ line ∷ lines_of (drop 1 left)
unfolding lines_of
first-line {text} {line} {left} h s = ap lines_of (sym s.whole) ∙ go left s.whole s.ends
  where
    last : (l : List ℕ) → 0 < length l → all_are is_line_byte l ≡ true → lines_of l ≡ l ∷ []
    last [] h a = absurd (omega arith)
    last (x ∷ xs) h a = line-last x xs a

    go : (left : List ℕ) → line ++ left ≡ text → (0 < length left → is_line_byte (get_or left 0 0) ≡ false)
        → lines_of (line ++ left) ≡ line ∷ lines_of (drop 1 left)
    go [] e ends = rw append-nil (last line (omega (arith, ap length e, length-append line [])) s.all)
    go (b ∷ bs) e ends =
        let feed : b ≡ line_feed = eqb-true _ _ (line-byte b (ends (omega arith))) in
        rw feed (line-cut line bs s.all)
