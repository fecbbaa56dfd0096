-- `planner::useful` meets its contract: the useful lines of an edge of the file, as words.
use mathlib.Core.Path.{sym, ◌∙◌}
use Rattle.model.specs.Lines as lines
use Rattle.model.proofs.Sets.{fits_word}
use Rattle.lineset.proofs.Laws.{set_words}
use Rattle.taskfile.specs.File.{task_of}
use Rattle.planner.specs.Calls.{useful_words}
use Rattle.planner.proofs.Edge.{edge-inside}
use borrow.Author.Rules.{rules}
use Rattle.planner.proofs.useful.Goals as goal

pub useful_lines-requires : goal.useful_lines-requires
useful_lines-requires c = edge-inside c.args.file.now c.args.k (sym c.check_edge.ensures ∙ c.in_ok-check_edge.was)

pub returns : goal.returns
unfolding useful_words
returns c =
    let accepted = sym c.check_edge.ensures ∙ c.in_ok-check_edge.was in
    let words = set_words (lines.useful (task_of c.args.file.now) c.args.k) c.useful_lines.result (search (rules, fits_word)) (λ d h. c.useful_lines.ensures d) in
    rw (accepted, ← words)
