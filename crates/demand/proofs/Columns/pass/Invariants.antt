-- `demand::Columns::pass` meets its contract. The loop's invariant is `Passing`; a place goes on by one of its two laws.
use Rattle.demand.proofs.Passing.{Passing}
use Rattle.demand.proofs.Columns.pass.Given as goal

abbrev pub invariant-loop-i : goal.invariant-loop-i
invariant-loop-i l = Passing l.self.count l.self.executions l.self.periods l.fn.instants l.fn.demand l.t l.end l.i l.demand l.next l.instants
