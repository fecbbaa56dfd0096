-- `planvalue::first_wrong` meets its contract. The loop's invariant: the lowest wrong entry of those up to `end` is the lowest from `i` on.
use Prim.Native.Nat.{◌+◌, ◌-◌}
use mathlib.Core.Path.{◌≡◌, refl, sym, ap, ◌∙◌}
use native.Mathlib.Omega.{arith}
use Rattle.model.specs.Lists.{lowest_from}
use Rattle.model.proofs.Lowest.{scan-next, scan-here, scan-end}
use Rattle.planvalue.proofs.first_wrong.Goals as goal

pub loop-i-init : goal.loop-i-init
loop-i-init c =
    let all : c.args.end - 0 ≡ c.args.end = omega arith in
    rw all

pub returns-then-not-point_right : goal.returns-then-not-point_right
returns-then-not-point_right c =
    let loop = c.loop-i in
    let end = c.args.end in
    rw (loop.invariant ∙ scan-here _ loop.i (end - loop.i) (λ e. omega arith) (sym c.point_right.ensures ∙ c.if-not-point_right.true))

pub loop-i-preserved : goal.loop-i-preserved
loop-i-preserved c =
    let loop = c.loop-i in
    let end = c.args.end in
    let rest : end - loop.i - 1 ≡ end - (loop.i + 1) = omega arith in
    (loop.invariant ∙
    scan-next _ loop.i (loop.i + 1) (end - loop.i) (λ e. omega arith) refl (sym c.point_right.ensures ∙ c.if-not-point_right.false) ∙
    ap (lowest_from _ (loop.i + 1)) rest)

pub returns : goal.returns
returns c =
    let loop = c.loop-i in
    let end = c.args.end in
    rw (loop.invariant ∙ scan-end _ loop.i (end - loop.i) (omega arith))
