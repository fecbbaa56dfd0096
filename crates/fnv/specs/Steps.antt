-- What the steps of a hash leave to each other. Assumes nothing.
use Rattle.std.specs.Prelude.{◌≡◌, ℕ, ◌+◌, ◌<◌, ◌≤◌, List, length, get_or, drop, slice_index}
use Rattle.fnv.specs.Fnv.{hash_from}

-- if a number is 0, the n bytes from a place on are
abbrev pub ZeroIf : ℕ → List ℕ → ℕ → ℕ → Type 0
ZeroIf n bytes at number = number ≡ 0 → (j : ℕ) → j < n → get_or bytes (at + j) 0 ≡ 0

-- the state, hashed on over the bytes from i, is what the first state comes to over them all
pub record Reached (from : ℕ) (bytes : List ℕ) (i state : ℕ) : Type 0 where
  pub within : i ≤ length bytes
  pub on : hash_from state (drop i bytes) ≡ hash_from from bytes

-- four slices have one length
abbrev pub OneLength : List ℕ → List ℕ → List ℕ → List ℕ → Type 0
OneLength a b c d = (length b ≡ length a) × (length c ≡ length a) × (length d ≡ length a)

-- four states, each hashed on over its bytes
pub record HashedOn (from : List ℕ) (a b c d : List ℕ) (states : List ℕ) : Type 0 where
  pub first : slice_index states 0 ≡ hash_from (slice_index from 0) a
  pub second : slice_index states 1 ≡ hash_from (slice_index from 1) b
  pub third : slice_index states 2 ≡ hash_from (slice_index from 2) c
  pub fourth : slice_index states 3 ≡ hash_from (slice_index from 3) d

-- four hashes that have come up to one place
pub record AllReached (a b c d : List ℕ) (i : ℕ) (states : List ℕ) : Type 0 where
  pub first : Reached 2166136261 a i (slice_index states 0)
  pub second : Reached 2166136261 b i (slice_index states 1)
  pub third : Reached 2166136261 c i (slice_index states 2)
  pub fourth : Reached 2166136261 d i (slice_index states 3)
