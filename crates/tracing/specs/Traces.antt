-- The task that a trace's addresses make (document 02, item 11). Assumes nothing.
use Rattle.std.specs.Prelude.{ℕ, ◌+◌, ◌-◌, ◌*◌, ◌/◌, false, List, [], map, length, take, drop}
use Rattle.model.specs.Task.{Block, Task}
use Rattle.model.specs.declared.Header.{Header}
use Rattle.taskfile.specs.File.{collect}
use Rattle.tracing.specs.declared.Settings.{Settings}

-- N: as many basic blocks of g records as n records take, rounded up
unfoldable pub blocks_for : ℕ → ℕ → ℕ
blocks_for n g = (n + g - 1) / g

-- a basic block of some records: it takes so many ticks for each, and a number is the address divided by the memory block's size; nothing is armed
unfoldable pub traced_block : Settings → List ℕ → Block
traced_block s addresses = record { time = length addresses * s.ticks; armed = false; reads = map (λ a. a / s.size) addresses }

-- the records of block i, from 0; the last block may have fewer than g
unfoldable pub group_at : ℕ → List ℕ → ℕ → List ℕ
group_at g addresses i = take g (drop (i * g) addresses)

unfoldable pub traced_blocks : Settings → List ℕ → List Block
traced_blocks s addresses = collect (λ i. traced_block s (group_at s.group addresses i)) 0 (blocks_for (length addresses) s.group)

-- header bytes 20 to 35 are zero
abbrev pub traced_header : Settings → Header
traced_header s =
    record {
      line_count = s.line_count;
      limit = s.limit;
      reload = s.reload;
      id = s.id;
      scratch = record { first = 0; count = 0 };
      second_limit = 0;
      switch = 0;
    }

-- the task: no preempters
unfoldable pub traced_task : Settings → List ℕ → Task
traced_task s addresses = record { header = traced_header s; blocks = traced_blocks s addresses; preempters = [] }
