-- What arrays of 512 entries say of a cache's lines. Assumes nothing.
use Rattle.std.specs.Prelude.{ℕ, zero, suc, ◌-◌, ◌≤◌, ◌<◌, ◌≡◌, cond, ◌&&◌, List, eqb, length, get_or, None, Option, Some}
use Rattle.model.specs.Sets.{Lines}
use Rattle.model.specs.Task.{Task, block_count}
use Rattle.model.specs.Lines.{state_after, accessed}
use Rattle.model.specs.Charges.{first_touching}
use Rattle.model.specs.declared.Line.{Line}
use Rattle.model.specs.declared.Line.TheVariants.{Empty}

-- what each line holds after basic blocks 1 to k
abbrev pub HeldAfter : Task → ℕ → List Line → Type 0
HeldAfter t k held = (length held ≡ 512) × ((c : ℕ) → c < 512 → get_or held c Empty ≡ state_after t k c)

-- the lines of s are marked with n
abbrev pub MarkedBy : {A : Type 0} → Lines → A → List A → List A → Type 0
MarkedBy s n before after = (d : ℕ) → d < 512 → get_or after d n ≡ cond (s d) n (get_or before d n)

-- a place as a mark of eight bits: 32 is none
abbrev pub mark_of : Option ℕ → ℕ
mark_of None = 32
mark_of (Some i) = i

-- the first preempter that touches each line
abbrev pub FirstMarks : Task → List ℕ → Type 0
FirstMarks t marks = (length marks ≡ 512) × ((c : ℕ) → c < 512 → get_or marks c 0 ≡ mark_of (first_touching t c))

-- the first of the n blocks after block k that reads line c, or 0 if none does
unfoldable pub first_reader : Task → ℕ → ℕ → ℕ → ℕ
first_reader t k zero c = 0
first_reader t k (suc n) c = cond (accessed t (suc k) c) (suc k) (first_reader t (suc k) n c)

-- the edge before block b of n blocks, or the last edge where there is no such block
unfoldable pub edge_before : ℕ → ℕ → ℕ
edge_before n zero = n
edge_before n (suc i) = i

-- the first block after block k, up to block b, that reads each line
abbrev pub FirstReaders : Task → ℕ → ℕ → List ℕ → Type 0
FirstReaders t k b readers = (c : ℕ) → c < 512 → get_or readers c 0 ≡ first_reader t k (b - k) c

-- the lines of s that have no reader have n
abbrev pub FirstBy : Lines → ℕ → List ℕ → List ℕ → Type 0
FirstBy s n before after = (d : ℕ) → d < 512 → get_or after d 0 ≡ cond (eqb (get_or before d 0) 0 && s d) n (get_or before d 0)

-- readers that were noted up to block b are noted up to block r
pub record NotedTo (t : Task) (b r : ℕ) (before after : List ℕ) : Type 0 where
  pub long : length after ≡ 512
  pub from : b ≤ r
  pub to : r ≤ block_count t
  pub noted : (k : ℕ) → k ≤ b → FirstReaders t k b before → FirstReaders t k r after

-- line c has its reader, or no block is left
abbrev pub Settled : Task → ℕ → List ℕ → ℕ → Type 0
Settled t r readers c = get_or readers c 0 ≡ 0 → r ≡ block_count t
