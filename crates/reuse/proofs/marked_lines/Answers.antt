-- `reuse::marked_lines` meets its contract. The loop's invariant: the set is the marked lines below c.
use mathlib.Core.Path.{◌≡◌, refl, ap, ◌∙◌}
use mathlib.Core.Bool.{Bool, false, ◌&&◌, ◌||◌}
use native.Mathlib.Omega.{arith}
use lib.Dec.{eqb}
use lib.ListN.{get_or}
use borrow.Author.Tests.{le-ltb}
use Rattle.reuse.proofs.Below.{one_more}
use Rattle.reuse.proofs.marked_lines.Goals as goal

pub loop-c-init : goal.loop-c-init
loop-c-init c = λ d. c.empty-set.ensures d ∙ rw (le-ltb d 0 (omega arith)) refl

pub loop-c-preserved : goal.loop-c-preserved
loop-c-preserved c =
    let l = c.loop-c in
    let marks = c.args.marks.now in
    λ d.
    c.with_marked-set.ensures d ∙ ap (λ (x : Bool). x || eqb d l.c && get_or marks l.c false) (l.invariant d) ∙
    one_more (λ e. get_or marks e false) l.c d

pub returns : goal.returns
returns c =
    let end : c.loop-c.c ≡ c.args.count = omega arith in
    λ d. c.loop-c.invariant d ∙ rw end refl
