-- `taskfile::header_in_range` meets its contract: the counts are tested, and then the scratch range.
use mathlib.Core.Path.{◌≡◌}
use lib.ListN.{length}
use Rattle.model.specs.Task.{block_count, line_count}
use Rattle.taskfile.specs.File.{counts, task_of, counts_in_range, header_in_range}
use Rattle.taskfile.proofs.Accepted.{block-count, preempter-count}
use Rattle.taskfile.proofs.header_in_range.Goals as goal
use Rattle.taskfile.proofs.header_in_range.Goals.{After-counts_in_range}

-- the range of the task's counts is what `counts_in_range` answers
tested : (c : goal.After-counts_in_range) → let t = task_of c.args.file.now in
    counts_in_range (block_count t) (length t.preempters) (line_count t) ≡ c.counts_in_range.result
unfolding task_of counts
tested c =
    let file = c.args.file.now in
    rw (
      block-count file,
      preempter-count file,
      c.counts_in_range.ensures,
      c.read_header-header.ensures,
      c.u16_at-2.ensures,
      c.u16_at.ensures,
    )

pub returns-then-not-counts_in_range : goal.returns-then-not-counts_in_range
unfolding header_in_range
returns-then-not-counts_in_range c = rw (tested (goal.at.returns-then-not-counts_in_range c).After-counts_in_range, c.if-not-counts_in_range.true)

pub returns : goal.returns
unfolding header_in_range task_of
returns c =
    rw (tested (goal.at.returns c).After-counts_in_range, c.if-not-counts_in_range.false, ← c.read_header-header.ensures)
    c.scratch_in_range.ensures
