-- Sets of cache lines (document 01, "Lines"). A set is a test of the line's number; its words and its size are defined from that test.
-- Assumes nothing.
use Rattle.std.specs.Prelude.{Bool, true, false, ◌||◌, List, [], ◌∷◌, ℕ, zero, suc, ◌+◌, ◌*◌, ◌/◌, ◌%◌, ◌^◌, eqb, get_or}

abbrev pub Lines : Type 0
Lines = ℕ → Bool

-- the set of the numbers in a list
unfoldable pub listed : List ℕ → Lines
listed [] c = false
listed (d ∷ ds) c = eqb d c || listed ds c

abbrev pub bit : Bool → ℕ
bit true = 1
bit false = 0

-- how many lines below n are in the set
unfoldable pub count_below : ℕ → Lines → ℕ
count_below zero s = 0
count_below (suc n) s = count_below n s + bit (s n)

-- the size of a set: its lines below 512
abbrev pub size : Lines → ℕ
size s = count_below 512 s

-- the first n values of f
unfoldable pub table : ℕ → (ℕ → ℕ) → List ℕ
table zero f = []
table (suc n) f = f 0 ∷ table n (λ k. f (suc k))

-- digit j of a number, as a bit
abbrev pub digit : ℕ → ℕ → Bool
digit a j = eqb (a / 2 ^ j % 2) 1

-- the number whose digit j, of n digits, is 1 where j is in the set
unfoldable pub digits_below : ℕ → Lines → ℕ
digits_below zero s = 0
digits_below (suc n) s = digits_below n s + bit (s n) * 2 ^ n

-- word w of a set has a bit for each of 64 lines, the lowest line in the lowest bit
unfoldable pub word : Lines → ℕ → ℕ
word s w = digits_below 64 (λ j. s (w * 64 + j))

-- the set as it is handed out, in eight words
unfoldable pub words : Lines → List ℕ
words s = word s 0 ∷ word s 1 ∷ word s 2 ∷ word s 3 ∷ word s 4 ∷ word s 5 ∷ word s 6 ∷ word s 7 ∷ []

-- the set that a list of words holds
unfoldable pub in_words : List ℕ → Lines
in_words ws c = digit (get_or ws (c / 64) 0) (c % 64)
