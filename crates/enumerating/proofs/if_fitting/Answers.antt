-- `enumerating::if_fitting` meets its contract. The loop's invariant: the regions so far and the
-- remaining points make the whole list.
use Prim.Native.Nat.{◌+◌, ◌*◌}
use mathlib.Core.Path.{sym, ◌∙◌}
use native.Mathlib.Omega.{arith}
use Rattle.enumerating.proofs.Walks.{walked_start, walked-point, walked_none, walked_end, walked-is, if-fits, if-above}
use Rattle.enumerating.proofs.if_fitting.Goals as goal
use Rattle.enumerating.proofs.if_fitting.Goals.{then-rest-eq1, else-rest-eq1}

pub loop-to-init : goal.loop-to-init
loop-to-init c = walked_start _ _ _ _ _

pub ended-walk-requires : goal.ended-walk-requires
ended-walk-requires c =
    let l = c.loop-to in
    record { small = (c.requires.2, l.invariant.edge, omega arith); lines_bound = (l.invariant.few, l.invariant.small) }

pub loop-to-preserved : goal.loop-to-preserved
loop-to-preserved c =
    let l = c.loop-to in
    let at = 17 * l.walk.from + l.to in
    elim c.if-rest-eq1.branch [
      | then-rest-eq1 w ↦
          let e = w.ended-walk.ensures in
          walked-is _ _ _ _ _ (rw w.walk-is e.fits_value) (rw w.walk-is e.from_value) (rw w.walk-is e.lines_value) (rw w.walk-is e.cost_value)
          (walked-point _ _ _ _ _ l.invariant (omega arith) w.if-rest-eq1.true (c.requires.2.few at) (c.requires.2.small at))
      | else-rest-eq1 w ↦ rw w.walk-is (walked_none _ _ _ _ _ l.invariant (omega arith) w.if-rest-eq1.false)
    ]

pub ended-whole-requires : goal.ended-whole-requires
ended-whole-requires c =
    let l = c.loop-to in
    record { small = (c.requires.2, omega (arith, l.invariant.edge), c.requires.1); lines_bound = (l.invariant.few, l.invariant.small) }

pub returns-then-whole : goal.returns-then-whole
returns-then-whole c =
    let l = c.loop-to in
    let e = c.ended-whole.ensures in
    let end = walked_end _ _ _ _ _ l.invariant (omega arith) in
    if-fits _ _ _ _ _ (end.0 ∙ sym c.ended-whole.ensures.fits_value) (end.1 ∙ sym c.ended-whole.ensures.lines_value) (end.2 ∙ sym c.ended-whole.ensures.cost_value) c.if-whole.true

pub returns-else-whole : goal.returns-else-whole
returns-else-whole c =
    let l = c.loop-to in
    let end = walked_end _ _ _ _ _ l.invariant (omega arith) in
    if-above _ _ _ _ _ (end.0 ∙ sym c.ended-whole.ensures.fits_value) c.if-whole.false
