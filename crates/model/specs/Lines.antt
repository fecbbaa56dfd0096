-- The lines of a task (document 01, "Lines"; 003's reaching and live states on a straight line).
-- Assumes nothing.
use Rattle.std.specs.Prelude.{ℕ, zero, suc, ◌+◌, ◌%◌, Bool, false, cond, ◌&&◌, ◌||◌, List, [], ◌∷◌, ◌++◌, eqb, leb, ltb, get_or, take, drop, None, Option, Some}
use Rattle.model.specs.Sets.{Lines}
use Rattle.model.specs.Task.{Block, Preempter, Task, line_count, no_block}
use Rattle.model.specs.declared.Line.{Line}
use Rattle.model.specs.declared.Line.TheVariants.{Empty, Held}

-- memory block m bypasses the cache: it is in the scratch range (document 02, item 5)
unfoldable pub bypasses : Task → ℕ → Bool
bypasses t m = let scratch = t.header.scratch in leb scratch.first m && ltb m (scratch.first + scratch.count)

-- the line of memory block m, or none: the one place where a number becomes a line
unfoldable pub line_of : Task → ℕ → Option ℕ
line_of t m = cond (bypasses t m) None (Some (m % line_count t))

-- a memory block that lies there lies on line c
abbrev pub is_line : ℕ → Option ℕ → Bool
is_line c None = false
is_line c (Some d) = eqb c d

-- memory block m lies on line c
unfoldable pub on_line : Task → ℕ → ℕ → Bool
on_line t c m = is_line c (line_of t m)

-- the state of a line that was l, after these reads; on tells which numbers lie on it
unfoldable pub last_read : (ℕ → Bool) → Line → List ℕ → Line
last_read on l [] = l
last_read on l (m ∷ ms) = last_read on (cond (on m) (Held m) l) ms

-- the next read of a line: the first of these numbers that lies on it
unfoldable pub first_read : (ℕ → Bool) → List ℕ → Line
first_read on [] = Empty
first_read on (m ∷ ms) = cond (on m) (Held m) (first_read on ms)

-- how many of these reads a search for it looks at: those up to and with the first that lies on the line, or all (document 02, item 2)
unfoldable pub looked_at : (ℕ → Bool) → List ℕ → ℕ
looked_at on [] = 0
looked_at on (m ∷ ms) = suc (cond (on m) 0 (looked_at on ms))

-- one of these numbers lies on the line
unfoldable pub any_read : (ℕ → Bool) → List ℕ → Bool
any_read on [] = false
any_read on (m ∷ ms) = on m || any_read on ms

-- two states hold the same memory block; an empty line holds none
abbrev pub same_block : Line → Line → Bool
same_block Empty Empty = false
same_block Empty (Held n) = false
same_block (Held m) Empty = false
same_block (Held m) (Held n) = eqb m n

-- the reads of a run of basic blocks, in order
unfoldable pub reads_of : List Block → List ℕ
reads_of [] = []
reads_of (b ∷ bs) = b.reads ++ reads_of bs

-- the reads of the preempters
unfoldable pub preempter_reads : List Preempter → List ℕ
preempter_reads [] = []
preempter_reads (p ∷ ps) = p.reads ++ preempter_reads ps

-- basic block i + 1
unfoldable pub block_at : Task → ℕ → Block
block_at t i = get_or t.blocks i no_block

-- what line c holds after basic blocks 1 to k
unfoldable pub state_after : Task → ℕ → ℕ → Line
state_after t k c = last_read (on_line t c) Empty (reads_of (take k t.blocks))

-- the first number read on line c in basic blocks k + 1 to N
unfoldable pub next_read : Task → ℕ → ℕ → Line
next_read t k c = first_read (on_line t c) (reads_of (drop k t.blocks))

-- how many reads of basic blocks k + 1 to N are looked at to find it
unfoldable pub reads_looked_at : Task → ℕ → ℕ → ℕ
reads_looked_at t k c = looked_at (on_line t c) (reads_of (drop k t.blocks))

-- what the search answers of a next read: its number, or none
abbrev pub as_next : Line → Option ℕ
as_next Empty = None
as_next (Held m) = Some m

-- U(k), the useful lines at edge k: they hold some m, and m is read next
unfoldable pub useful : Task → ℕ → Lines
useful t k c = same_block (state_after t k c) (next_read t k c)

-- T(k), the lines that basic block k reads; k is at least 1
unfoldable pub accessed : Task → ℕ → Lines
accessed t zero c = false
accessed t (suc i) c = any_read (on_line t c) (block_at t i).reads

-- H, the lines that the preempters evict
unfoldable pub evicted : Task → Lines
evicted t c = any_read (on_line t c) (preempter_reads t.preempters)
