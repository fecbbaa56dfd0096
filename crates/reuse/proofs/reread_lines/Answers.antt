-- `reuse::reread_lines` meets its contract. The loop's invariant: the set is those of the lines below c.
use mathlib.Core.Path.{◌≡◌, refl, ap, ◌∙◌}
use mathlib.Core.Bool.{Bool, ◌&&◌, ◌||◌}
use native.Mathlib.Omega.{arith}
use lib.Dec.{eqb, ltb}
use borrow.Author.Tests.{le-ltb}
use Rattle.reuse.proofs.Below.{one_more}
use Rattle.reuse.proofs.reread_lines.Goals as goal
use Rattle.reuse.proofs.reread_lines.Invariants.{Same}

pub loop-c-init : goal.loop-c-init
loop-c-init c = λ d. c.empty-lines.ensures d ∙ rw (le-ltb d 0 (omega arith)) refl

pub loop-c-preserved : goal.loop-c-preserved
loop-c-preserved c =
    let l = c.loop-c in
    let same = Same c.args.held.now c.args.first.now in
    λ d.
    c.with_marked-lines.ensures d ∙ ap (λ (x : Bool). x || eqb d l.c && c.same_block.result) (l.invariant d) ∙
    ap (λ (x : Bool). ltb d l.c && same d || eqb d l.c && x) c.same_block.ensures ∙ one_more same l.c d

pub returns : goal.returns
returns c =
    let end : c.loop-c.c ≡ c.args.count = omega arith in
    λ d. c.loop-c.invariant d ∙ rw end refl
