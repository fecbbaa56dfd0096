-- Laws of verdicts on plans: what an accepted plan has.
-- Assumes nothing.
use Rattle.std.specs.Prelude.{ℕ, Err, None, Option, Some}
use Prim.Native.Nat.{◌≤◌}
use mathlib.Core.Path.{◌≡◌, refl, sym}
use mathlib.Core.Bool.{Bool, true, false, cond, ◌&&◌, and-eq-true_iff}
use lib.Dec.{leb}
use borrow.Author.Tests.{leb-true}
use Rattle.model.specs.Answers.{accept, refused_at}
use Rattle.model.specs.declared.Plan.{Plan}
use Rattle.model.specs.declared.Refusal.TheVariants.{Argument}
use Rattle.model.proofs.Verdicts.{never_both}
use Rattle.model.specs.Lists.{lowest_from}
use Rattle.planvalue.specs.Values.{point_right, plan_in_range, plan_verdict}

pub accepted-parts : (p : Plan) → plan_verdict p ≡ accept → (plan_in_range p ≡ true) × (lowest_from (point_right p.blocks p.count p.points) 0 64 ≡ None)
unfolding plan_verdict
accepted-parts p e = go (plan_in_range p) (lowest_from (point_right p.blocks p.count p.points) 0 64) e
  where
    go : (b : Bool) (k : Option ℕ) → cond b (refused_at k Argument accept) (Err (Argument 0)) ≡ accept → (b ≡ true) × (k ≡ None)
    go true None q = (refl, refl)
    go true (Some i) q = absurd (never_both (sym q))
    go false k q = absurd (never_both (sym q))

pub count-in-range : (p : Plan) → plan_in_range p ≡ true → p.count ≤ 63
unfolding plan_in_range
count-in-range p e = leb-true p.count 63 ((and-eq-true_iff (leb 1 p.blocks && leb p.blocks 64) (leb p.count 63)).0 e).1

pub count-accepted : (p : Plan) → plan_verdict p ≡ accept → p.count ≤ 63
count-accepted p e = count-in-range p (accepted-parts p e).0
