-- What a writer of task files has stored so far (document 01, "Blocks of 512 bytes").
-- Assumes nothing.
use Rattle.std.specs.Prelude.{ℕ, zero, suc, ◌+◌, ◌*◌, ◌≡◌, List, [], ◌∷◌, ◌++◌, length, take, drop}
use Rattle.model.specs.declared.Header.{Header}
use Rattle.block.specs.Bytes.{packed, fields}
use Rattle.block.specs.Blocks.{numbered, sealed, sealed_blocks}
use Rattle.taskfile.specs.File.{blocks_in, header_numbers, whole_blocks}

-- the bytes of a file: 1 + N + M blocks
abbrev pub file_size : ℕ → ℕ → ℕ
file_size n m = 512 * (1 + n + m)

-- the first n numbers that a block reads, as they stand in it
abbrev pub stored_reads : List ℕ → ℕ → List ℕ
stored_reads bs n = fields bs 8 4 n

-- blocks 1 to n of a buffer, each with the checksum that it is to get
abbrev pub stored_blocks : ℕ → List ℕ → List ℕ
stored_blocks n bs = sealed_blocks n (drop 512 bs)

-- a buffer was old and is new: behind its block k now stand blocks with these named bytes and the numbers from k + 1 on, but for their
-- checksums, and blocks 1 to k are as they were
unfoldable pub Appended : ℕ → List (List ℕ) → List ℕ → List ℕ → Type 0
Appended k names old new = stored_blocks (k + length names) new ≡ stored_blocks k old ++ whole_blocks (1 + k) names

-- the file that a buffer becomes when it is closed: the header with N, M and its other numbers, and the blocks that stand in the buffer
unfoldable pub closed_file : ℕ → ℕ → Header → List ℕ → List ℕ
closed_file n m h bs = sealed (numbered 0 (packed (header_numbers n m h))) ++ stored_blocks (n + m) bs

-- bytes 0 to 503 of each of the first n blocks: their named bytes, and zeros
unfoldable pub bodies : ℕ → List ℕ → List (List ℕ)
bodies zero bs = []
bodies (suc n) bs = take 504 bs ∷ bodies n (drop 512 bs)

-- those of all blocks of a source: what a copy of them is to have
abbrev pub copies : List ℕ → List (List ℕ)
copies source = bodies (blocks_in source) source
