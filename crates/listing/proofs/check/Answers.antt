-- `listing::check` meets its contract, answer by answer.
use Rattle.std.proofs.Common.{refl, sym, arith}
use Rattle.std.proofs.lemmas.Result.{err_from_is_err_and}
use borrow.Author.Tests.{le-leb, lt-leb}
use Rattle.model.specs.Task.{block_count}
use Rattle.taskfile.specs.File.{task_of}
use Rattle.listing.specs.Calls.{list_verdict}
use Rattle.listing.proofs.check.Goals as goal

pub returns-in_err-check : goal.returns-in_err-check
unfolding list_verdict
returns-in_err-check c =
    let p = err_from_is_err_and c.from_residual.result c.from_residual.ensures.1 in
    rw (p.1, p.2, ← c.in_err-check.ensures) refl

pub block_count-requires : goal.block_count-requires
block_count-requires c = sym c.in_ok-check.ensures

pub returns-then-block_count-gt-MOST_BLOCKS : goal.returns-then-block_count-gt-MOST_BLOCKS
unfolding list_verdict
returns-then-block_count-gt-MOST_BLOCKS c =
    rw (← c.in_ok-check.ensures, lt-leb (block_count (task_of c.args.file.now)) 16 (omega arith)) refl

pub returns : goal.returns
unfolding list_verdict
returns c = rw (← c.in_ok-check.ensures, le-leb (block_count (task_of c.args.file.now)) 16 (omega arith)) refl
