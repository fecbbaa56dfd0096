-- The lines of a text, and the words of a line. Assumes nothing.
use Rattle.std.specs.Prelude.{ℕ, Bool, false, cond, not, ◌&&◌, ◌||◌, List, [], ◌∷◌, eqb}
use Rattle.showing.specs.Text.{line_feed}

-- a space, a tab or a carriage return
unfoldable pub is_blank : ℕ → Bool
is_blank b = eqb b 32 || eqb b 9 || eqb b 13

-- `#`, which begins a comment
unfoldable pub is_hash : ℕ → Bool
is_hash b = eqb b 35

-- any other byte is one of a word
unfoldable pub is_word_byte : ℕ → Bool
is_word_byte b = not (is_blank b) && not (is_hash b)

-- a byte that ends no line
unfoldable pub is_line_byte : ℕ → Bool
is_line_byte b = not (eqb b line_feed)

-- a byte in front of some words or lines, as a part of the first
unfoldable pub in_front : ℕ → List (List ℕ) → List (List ℕ)
in_front b [] = (b ∷ []) ∷ []
in_front b (w ∷ ws) = (b ∷ w) ∷ ws

-- the lines of a text, without their line feeds; what stands behind the last line feed, if anything, is a line too
unfoldable pub lines_of : List ℕ → List (List ℕ)
lines_of [] = []
lines_of (b ∷ bs) = cond (is_line_byte b) (in_front b (lines_of bs)) ([] ∷ lines_of bs)

-- some bytes begin with one of a word
unfoldable pub goes_on : List ℕ → Bool
goes_on [] = false
goes_on (b ∷ bs) = is_word_byte b

-- the words of a line: what stands between blanks, up to a comment
unfoldable pub words_of : List ℕ → List (List ℕ)
words_of [] = []
words_of (b ∷ bs) =
    cond (is_hash b) [] (cond (is_blank b) (words_of bs) (cond (goes_on bs) (in_front b (words_of bs)) ((b ∷ []) ∷ words_of bs)))
