-- `demand::Columns::pass` meets its contract. The loop's invariant is `Passing`; a place goes on by one of its two laws.
use native.Mathlib.Omega.{arith}
use borrow.Author.Rules.{rules}
use Rattle.demand.proofs.Passing.{passing-none, passing-here, passing-past}
use Rattle.demand.proofs.Columns.pass.Goals as goal
use Rattle.demand.proofs.Columns.pass.Goals.{then-instant-t, else-instant-t}

pub loop-i-init : goal.loop-i-init
loop-i-init c = passing-none _ _ _ _ _ _ _ c.requires.2

pub loop-i-preserved : goal.loop-i-preserved
loop-i-preserved c =
    elim c.if-instant-t.branch [
      | then-instant-t w ↦
          rw (w.instants-is, w.demand-is, w.next-is)
          (passing-here _ _ _ _ _ _ _ c.requires.0 c.requires.3 (omega arith) c.loop-i.invariant w.if-instant-t.true (search rules))
      | else-instant-t w ↦
          rw (w.instants-is, w.demand-is, w.next-is)
          (passing-past _ _ _ _ _ _ _ c.requires.0 (omega arith) c.loop-i.invariant w.if-instant-t.false (search rules))
    ]
