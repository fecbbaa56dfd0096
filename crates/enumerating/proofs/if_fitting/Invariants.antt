-- `enumerating::if_fitting` meets its contract. The loop's invariant: the regions so far and the
-- remaining points make the whole list.
use Rattle.enumerating.specs.Table.{fit_in, lines_in, cost_in}
use Rattle.enumerating.proofs.Walks.{Walked}
use Rattle.enumerating.proofs.if_fitting.Given as goal

abbrev pub invariant-loop-to : goal.invariant-loop-to
invariant-loop-to l =
    Walked (fit_in l.table) (lines_in l.table) (cost_in l.table) l.blocks l.number l.walk.fits l.walk.from l.walk.lines l.walk.cost l.to l.rest
