-- `planner::next_read` meets its contract: the search of an edge of the file.
use mathlib.Core.Path.{sym, ◌∙◌}
use Rattle.planner.specs.Calls.{next_read_of, looked_of}
use Rattle.planner.proofs.Edge.{edge-inside}
use Rattle.planner.proofs.next_read.Goals as goal

pub next_read-requires : goal.next_read-requires
next_read-requires c = edge-inside c.args.file.now c.args.k (sym c.check_edge.ensures ∙ c.in_ok-check_edge.was)

pub returns : goal.returns
unfolding next_read_of looked_of
returns c =
    let accepted = sym c.check_edge.ensures ∙ c.in_ok-check_edge.was in
    rw (accepted, ← c.next_read.ensures.next_value, ← c.next_read.ensures.looked_value)
