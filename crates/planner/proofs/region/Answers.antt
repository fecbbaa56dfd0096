-- `planner::region` meets its contract, answer by answer.
use mathlib.Core.Path.{sym, ◌∙◌}
use native.Mathlib.Omega.{arith}
use borrow.Author.Tests.{lt-ltb, le-ltb, le-leb, lt-leb}
use Rattle.model.specs.Task.{block_count}
use Rattle.model.specs.Regions.{loaded}
use Rattle.model.proofs.Sets.{fits_word}
use Rattle.lineset.proofs.Laws.{set_words}
use Rattle.taskfile.specs.File.{task_of}
use Rattle.planner.specs.Calls.{region_verdict, loaded_words, length_of}
use borrow.Author.Rules.{rules}
use Rattle.planner.proofs.region.Goals as goal

pub returns-in_err-check : goal.returns-in_err-check
unfolding region_verdict
returns-in_err-check c = search rules

pub returns-then-b-a : goal.returns-then-b-a
unfolding region_verdict
returns-then-b-a c =
    let accepted = sym c.check.ensures ∙ c.in_ok-check.was in
    rw (accepted, le-ltb c.args.a c.args.b (omega arith))

pub returns-then-block_count-b : goal.returns-then-block_count-b
unfolding region_verdict
returns-then-block_count-b c =
    let accepted = sym c.check.ensures ∙ c.in_ok-check.was in
    rw (accepted, lt-ltb c.args.a c.args.b (omega arith), lt-leb c.args.b (block_count (task_of c.args.file.now)) (omega arith))

pub returns : goal.returns
unfolding region_verdict loaded_words length_of
returns c =
    let accepted = sym c.check.ensures ∙ c.in_ok-check.was in
    let found = c.measure-found in
    let words = set_words (loaded (task_of c.args.file.now) c.args.a c.args.b) found.result.loaded (search (rules, fits_word)) (λ d h. found.ensures.loaded d) in
    rw (
      accepted,
      lt-ltb c.args.a c.args.b (omega arith),
      le-leb c.args.b (block_count (task_of c.args.file.now)) (omega arith),
      ← words,
      ← found.ensures.length,
    )
