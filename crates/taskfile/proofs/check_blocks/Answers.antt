-- `taskfile::check_blocks` meets its contract: the header's two counts are read, and they decide which blocks are looked at.
use mathlib.Core.Path.{◌≡◌}
use native.Mathlib.Nat.{add_assoc}
use native.Mathlib.Omega.{arith}
use borrow.Author.Tests.{eq-eqb, ne_eqb}
use Rattle.taskfile.specs.File.{counts, blocks_in, count_row}
use Rattle.taskfile.proofs.check_blocks.Goals as goal
use Rattle.taskfile.proofs.check_blocks.Goals.{After-u16_at-preempters}

-- the header's counts
read : (c : goal.After-u16_at-preempters)
    → let h = counts c.args.file.now in
    (c.u16_at-blocks.result ≡ h.blocks) × (c.u16_at-preempters.result ≡ h.preempters)
unfolding counts
read c = (c.u16_at-blocks.ensures, c.u16_at-preempters.ensures)

pub returns-then-file-count : goal.returns-then-file-count
unfolding blocks_in count_row
returns-then-file-count c = rw (← (read (goal.at.returns-then-file-count c).After-u16_at-preempters).0, ← (read (goal.at.returns-then-file-count c).After-u16_at-preempters).1, add_assoc, ne_eqb _ _ c.if-file-count.true)

pub check_entries-requires : goal.check_entries-requires
check_entries-requires c =
    let are = read (goal.at.check_entries-requires c).After-u16_at-preempters in
    record { blocks_value = (are.0, omega arith); count_in_bounds = (omega arith, omega arith) }

pub returns : goal.returns
unfolding blocks_in count_row
returns c =
    rw (← (read (goal.at.returns c).After-u16_at-preempters).0, ← (read (goal.at.returns c).After-u16_at-preempters).1, add_assoc, eq-eqb _ _ c.if-file-count.false) c.check_entries.ensures
