-- Traces in din form (document 02, item 11): the lines of a text, which of them are right, and the address of a right one. Assumes nothing.
use Rattle.std.specs.Prelude.{ℕ, ◌+◌, ◌-◌, ◌*◌, Bool, false, cond, ◌&&◌, ◌||◌, List, [], ◌∷◌, map, eqb, leb, length, get_or, drop, Option}
use Rattle.model.specs.Lists.{lowest_from, same_list}

-- what ends a line
abbrev pub line_feed : ℕ
line_feed = 10

-- a byte in front of some lines, as a part of the first
unfoldable pub in_front : ℕ → List (List ℕ) → List (List ℕ)
in_front b [] = (b ∷ []) ∷ []
in_front b (l ∷ ls) = (b ∷ l) ∷ ls

-- the lines of a text. Each ends with its line feed; what stands behind the last line feed, if anything, is a line too
unfoldable pub lines_of : List ℕ → List (List ℕ)
lines_of [] = []
lines_of (b ∷ bs) = cond (eqb b line_feed) ((b ∷ []) ∷ lines_of bs) (in_front b (lines_of bs))

-- a label: 0 (read), 1 (write) or 2 (fetch)
unfoldable pub is_label : ℕ → Bool
is_label b = leb 48 b && leb b 50

unfoldable pub is_space : ℕ → Bool
is_space b = eqb b 32

-- a hexadecimal digit, in either case
unfoldable pub is_hex : ℕ → Bool
is_hex b = leb 48 b && leb b 57 || leb 65 b && leb b 70 || leb 97 b && leb b 102

-- what a digit counts
unfoldable pub digit_of : ℕ → ℕ
digit_of b = cond (leb b 57) (b - 48) (cond (leb b 70) (b - 55) (b - 87))

-- the digits that some bytes begin with
unfoldable pub digits_of : List ℕ → List ℕ
digits_of [] = []
digits_of (b ∷ bs) = cond (is_hex b) (b ∷ digits_of bs) []

-- 1 to 8 digits, and behind them a line feed and nothing else
unfoldable pub address_right : List ℕ → Bool
address_right bs = let n = length (digits_of bs) in leb 1 n && leb n 8 && same_list (drop n bs) (line_feed ∷ [])

-- a right line: a label, one space, an address and the line feed
unfoldable pub line_right : List ℕ → Bool
line_right [] = false
line_right (a ∷ []) = false
line_right (a ∷ s ∷ bs) = is_label a && is_space s && address_right bs

-- the number that digits say, the highest first, behind the number that those before them say
unfoldable pub hex_from : ℕ → List ℕ → ℕ
hex_from n [] = n
hex_from n (b ∷ bs) = hex_from (n * 16 + digit_of b) bs

-- the address of a right line
unfoldable pub address_of : List ℕ → ℕ
address_of line = hex_from 0 (digits_of (drop 2 line))

-- the lowest malformed line, from 0
unfoldable pub malformed_line : List ℕ → Option ℕ
malformed_line text = lowest_from (λ i. line_right (get_or (lines_of text) i [])) 0 (length (lines_of text))

-- the addresses of a text's records, where each line is right
unfoldable pub addresses_of : List ℕ → List ℕ
addresses_of text = map address_of (lines_of text)
