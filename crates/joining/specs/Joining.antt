-- Two tasks run as one (document 02, item 8). Assumes nothing.
use Rattle.std.specs.Prelude.{ℕ, min, ◌≤◌, ◌≡◌, Bool, ◌&&◌, ◌++◌, eqb, leb, length}
use Rattle.model.specs.Task.{Task, block_count}
use Rattle.model.specs.declared.Header.{Header}

-- the smaller limit, the smaller second limit (document 02, item 9) and the first's id; S, R, the scratch range and G are those of both
unfoldable pub joined_header : Header → Header → Header
joined_header a b =
    record {
      line_count = a.line_count;
      limit = min a.limit b.limit;
      reload = a.reload;
      id = a.id;
      scratch = a.scratch;
      second_limit = min a.second_limit b.second_limit;
      switch = a.switch;
    }

-- basic blocks of the first, then of the second, and preempters (the document's interrupters) likewise
unfoldable pub joined : Task → Task → Task
joined t u =
    record {
      header = joined_header t.header u.header;
      blocks = t.blocks ++ u.blocks;
      preempters = t.preempters ++ u.preempters;
    }

-- S, R, the scratch range and G (document 02, item 14) are equal; of the range both numbers are compared, also where it is empty
unfoldable pub agree : Task → Task → Bool
agree t u =
    let a = t.header in
    let b = u.header in
    eqb a.line_count b.line_count && eqb a.reload b.reload && eqb a.scratch.first b.scratch.first &&
    eqb a.scratch.count b.scratch.count && eqb a.switch b.switch

-- so many basic blocks and preempters have room in a file
unfoldable pub counts_fit : ℕ → ℕ → Bool
counts_fit n m = leb n 64 && leb m 32

-- a task's N and M, which have room in a file
pub record Totals (t : Task) (n m : ℕ) : Type 0 where
  pub blocks : n ≡ block_count t
  pub preempters : m ≡ length t.preempters
  pub fit : (n ≤ 64) × (m ≤ 32)
