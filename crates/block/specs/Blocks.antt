-- Blocks of 512 bytes, of any kind (document 01, "Blocks of 512 bytes").
-- Assumes nothing.
use Rattle.std.specs.Prelude.{ℕ, zero, suc, ◌-◌, Bool, List, [], ◌++◌, length, take, drop, replicate}
use Rattle.model.specs.Lists.{same_list}
use Rattle.fnv.specs.Fnv.{fnv1a}
use Rattle.block.specs.Bytes.{le}

-- bytes 0 to 507: the named bytes, zeros to byte 503, and the block's number in the file
unfoldable pub numbered : ℕ → List ℕ → List ℕ
numbered k named = named ++ replicate (504 - length named) 0 ++ le 4 k

-- 508 bytes and their checksum (the document's check)
unfoldable pub sealed : List ℕ → List ℕ
sealed bs = bs ++ le 4 (fnv1a bs)

-- the first n blocks of some bytes, each with its checksum
unfoldable pub sealed_blocks : ℕ → List ℕ → List ℕ
sealed_blocks zero bs = []
sealed_blocks (suc n) bs = sealed (take 508 bs) ++ sealed_blocks n (drop 512 bs)

-- a block's checksum is right
unfoldable pub checksum_right : List ℕ → Bool
checksum_right bs = same_list bs (sealed (take 508 bs))

-- bytes 0 to 507 are those of block k with these named bytes: no byte without a named use is other than zero
unfoldable pub body_right : ℕ → List ℕ → List ℕ → Bool
body_right k named bs = same_list (take 508 bs) (numbered k named)

-- named bytes up to end: the first two are given, the kind and byte 1, and the others are free, so as they stand in the block
unfoldable pub framed : ℕ → ℕ → ℕ → List ℕ → List ℕ
framed kind byte1 end bs = le 1 kind ++ le 1 byte1 ++ take (end - 2) (drop 2 bs)
