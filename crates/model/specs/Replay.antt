-- Replay of the reads (document 02, item 4): block after block, each read looked up in a cache that holds nothing at first, and the misses counted.
-- Assumes nothing.
use Rattle.std.specs.Prelude.{ℕ, suc, ◌+◌, Bool, false, not, cond, List, [], ◌∷◌, None, Option, Some}
use Rattle.model.specs.Sets.{Lines, listed, bit}
use Rattle.model.specs.Task.{Block, Task}
use Rattle.model.specs.Lines.{line_of, on_line, same_block, evicted}
use Rattle.model.specs.declared.Line.{Line}
use Rattle.model.specs.declared.Line.TheVariants.{Empty, Held}

-- a cache: the state of each line
abbrev pub Cache : Type 0
Cache = ℕ → Line

-- before the first read no line holds a number
abbrev pub empty_cache : Cache
empty_cache c = Empty

-- a read misses unless its line holds its number; one that lies on no line neither hits nor misses (document 02, item 5)
abbrev pub miss_at : Cache → ℕ → Option ℕ → Bool
miss_at s m None = false
miss_at s m (Some c) = not (same_block (s c) (Held m))

unfoldable pub miss : Task → Cache → ℕ → Bool
miss t s m = miss_at s m (line_of t m)

-- the cache after a read, hit or miss
unfoldable pub fetch : Task → Cache → ℕ → Cache
fetch t s m c = cond (on_line t c m) (Held m) (s c)

-- how many of these reads miss
unfoldable pub misses : Task → Cache → List ℕ → ℕ
misses t s [] = 0
misses t s (m ∷ ms) = bit (miss t s m) + misses t (fetch t s m) ms

-- the cache after these reads
unfoldable pub after : Task → Cache → List ℕ → Cache
after t s [] = s
after t s (m ∷ ms) = after t (fetch t s m) ms

-- a cache that has lost the lines of h
unfoldable pub emptied : Lines → Cache → Cache
emptied h s c = cond (h c) Empty (s c)

-- the cache behind edge k: preemption at a point loses the lines of H
unfoldable pub at_edge : Task → List ℕ → ℕ → Cache → Cache
at_edge t ps k s = cond (listed ps k) (emptied (evicted t) s) s

-- the misses of the blocks after edge k, one block after another: its reads, and then the edge after it
unfoldable pub walk : Task → List ℕ → Cache → ℕ → List Block → ℕ
walk t ps s k [] = 0
walk t ps s k (b ∷ bs) = misses t s b.reads + walk t ps (at_edge t ps (suc k) (after t s b.reads)) (suc k) bs

-- the misses of a task with these points
unfoldable pub misses_with : Task → List ℕ → ℕ
misses_with t ps = walk t ps empty_cache 0 t.blocks

-- and alone, with no point
unfoldable pub misses_alone : Task → ℕ
misses_alone t = misses_with t []
