-- Numbers in bytes, their lowest byte first (document 01's introduction).
-- Assumes nothing.
use Rattle.std.specs.Prelude.{ℕ, zero, suc, ◌+◌, ◌-◌, ◌*◌, ◌/◌, ◌%◌, ◌^◌, ◌<◌, Bool, List, [], ◌∷◌, ◌++◌, length, get_or, take, drop, replicate}
use Rattle.model.specs.Lists.{same_list}

-- each element of a list has P
unfoldable pub Each : {A : Type 0} → (A → Type 0) → List A → Type 0
Each P [] = Unit {0}
Each P (x ∷ xs) = P x × Each P xs

-- each is a byte
abbrev pub AllBytes : List ℕ → Type 0
AllBytes bs = (i : ℕ) → i < length bs → get_or bs i 0 < 256

-- n in w bytes
unfoldable pub le : ℕ → ℕ → List ℕ
le zero n = []
le (suc w) n = n % 256 ∷ le w (n / 256)

-- a list of numbers, each in w bytes
unfoldable pub les : ℕ → List ℕ → List ℕ
les w [] = []
les w (n ∷ ns) = le w n ++ les w ns

-- a number behind its width in bytes
abbrev pub Sized : Type 0
Sized = ℕ × ℕ

-- the number fits the width
abbrev pub InWidth : Sized → Type 0
InWidth s = s.1 < 256 ^ s.0

-- numbers of several widths, one after another
unfoldable pub packed : List Sized → List ℕ
packed [] = []
packed (s ∷ ss) = le s.0 s.1 ++ packed ss

-- the number in a list of bytes
unfoldable pub value : List ℕ → ℕ
value [] = 0
value (b ∷ bs) = b + 256 * value bs

-- the number in the w bytes from position at
unfoldable pub field : List ℕ → ℕ → ℕ → ℕ
field bs at w = value (take w (drop at bs))

-- the n numbers of w bytes each from position at
unfoldable pub fields : List ℕ → ℕ → ℕ → ℕ → List ℕ
fields bs at w zero = []
fields bs at w (suc n) = field bs at w ∷ fields bs (at + w) w n

-- the bytes from position start up to end are all zero; the byte at end is not one of them
abbrev pub zeros_between : List ℕ → ℕ → ℕ → Bool
zeros_between bs start end = same_list (take (end - start) (drop start bs)) (replicate (end - start) 0)
