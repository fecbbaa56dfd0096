-- A task as document 01 has it, with no bytes: a straight line of basic blocks, the tasks that may preempt it (the document's interrupters),
-- and the header's numbers. Assumes nothing.
use Rattle.std.specs.Prelude.{ℕ, Bool, false, List, [], length}
use Rattle.model.specs.declared.Header.{Header}

-- a basic block: its time, whether the sampler is armed in it (document 02, item 9), and the memory blocks that it reads, in order
pub record Block : Type 0 where
  pub time : ℕ
  pub armed : Bool
  pub reads : List ℕ

-- a preempter: its id, and the memory blocks that it reads
pub record Preempter : Type 0 where
  pub id : ℕ
  pub reads : List ℕ

-- of the header's numbers limit is Q, «second_limit» Q2, reload R and switch G; the memory blocks that bypass the cache are so many numbers from the first on (document 02,
-- item 5)
pub record Task : Type 0 where
  pub header : Header
  pub blocks : List Block
  pub preempters : List Preempter

-- N, the number of basic blocks; edge k, from 0 to N, is the place after block k
abbrev pub block_count : Task → ℕ
block_count t = length t.blocks

-- M, the number of preempters
abbrev pub preempter_count : Task → ℕ
preempter_count t = length t.preempters

-- S, the number of cache lines
abbrev pub line_count : Task → ℕ
line_count t = t.header.line_count

-- Q2, the limit where the sampler is armed
abbrev pub second_limit : Task → ℕ
second_limit t = t.header.second_limit

-- what stands for a block that a task has not
abbrev pub no_block : Block
no_block = record { time = 0; armed = false; reads = [] }

-- what stands for a preempter that a task has not
abbrev pub no_preempter : Preempter
no_preempter = record { id = 0; reads = [] }

-- the same task with other preempters
abbrev pub with_preempters : Task → List Preempter → Task
with_preempters t ps = record { header = t.header; blocks = t.blocks; preempters = ps }
