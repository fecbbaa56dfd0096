-- `enumerating::find_next` meets its contract: what is found by the table is what is found in the
-- task.
use Prim.Native.Nat.{ℕ}
use mathlib.Core.Path.{ap, ◌∙◌}
use native.Mathlib.Omega.{arith}
use Rattle.taskfile.specs.File.{task_of}
use Rattle.enumerating.specs.Search.{next_found}
use Rattle.enumerating.specs.Table.{fit_in, lines_in, cost_in}
use Rattle.enumerating.proofs.Walks.{same_next}
use Rattle.enumerating.proofs.find_next.Goals as goal

pub block_count-requires : goal.block_count-requires
block_count-requires c = c.requires.0

pub next_fitting-requires : goal.next_fitting-requires
next_fitting-requires c =
    (c.block_count.ensures.1, omega (arith, c.block_count.ensures.0, c.requires.1), c.evaluate_regions-table.ensures.widths)

pub returns : goal.returns
returns c =
    let table = c.evaluate_regions-table.result in
    let count = c.block_count.ensures in
    c.next_fitting.ensures ∙
    ap (λ (n : ℕ). next_found (fit_in table) (lines_in table) (cost_in table) n c.args.start) count.0 ∙
    same_next (task_of c.args.file.now) table c.args.start (omega (arith, count.0, count.1)) c.requires.1 c.evaluate_regions-table.ensures
