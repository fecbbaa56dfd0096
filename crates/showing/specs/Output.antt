-- Bytes put into an output. Assumes nothing.
use Rattle.std.specs.Prelude.{ℕ, suc, List, [], ◌∷◌, set}

-- some bytes from a place on, as far as the output goes
unfoldable pub laid : List ℕ → ℕ → List ℕ → List ℕ
laid out at [] = out
laid out at (b ∷ bs) = laid (set out at b) (suc at) bs
