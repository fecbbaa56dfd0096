-- 32-bit FNV-1a, a block's checksum (document 01, "Blocks of 512 bytes").
-- Assumes nothing.
use Rattle.std.specs.Prelude.{ℕ, ◌*◌, ◌%◌, ◌^◌, List, [], ◌∷◌}
use Rattle.std.specs.Int.Bits.{bit_xor}

-- one byte: exclusive or first, then the product's low 32 bits
abbrev pub step : ℕ → ℕ → ℕ
step state byte = bit_xor state byte * 16777619 % 2 ^ 32

-- the state after a list of bytes, from any state
unfoldable pub hash_from : ℕ → List ℕ → ℕ
hash_from state [] = state
hash_from state (byte ∷ bytes) = hash_from (step state byte) bytes

-- the hash starts from 2166136261
unfoldable pub fnv1a : List ℕ → ℕ
fnv1a bytes = hash_from 2166136261 bytes
