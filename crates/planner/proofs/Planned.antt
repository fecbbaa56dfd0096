-- What a plan that is answered says: its file is accepted, and its list is well formed and has as many points as the plan counts.
-- Assumes nothing.
use Rattle.std.specs.Prelude.{Err, None, Ok}
use Prim.Native.Nat.{ℕ, ◌≤◌}
use mathlib.Core.Path.{◌≡◌, refl, ap}
use mathlib.Core.List.{List}
use native.Mathlib.Omega.{arith}
use lib.ListN.{length, length-take}
use Rattle.model.specs.Task.{block_count}
use Rattle.model.specs.Lists.{steps, right_point, wrong_point}
use Rattle.model.specs.Planning.{chosen, plan_for}
use Rattle.model.specs.declared.Plan.{Plan}
use Rattle.model.specs.Answers.{accept, Verdict}
use Rattle.model.proofs.Lists.{lowest-none}
use Rattle.model.proofs.Verdicts.{never_both}
use Rattle.taskfile.specs.File.{verdict, IsAccepted, task_of}
use Rattle.planner.specs.Calls.{PlanAnswer}

module _ (file : List ℕ) (p : Plan) (a : PlanAnswer file (Ok p)) where
  pub plan-accepted : IsAccepted file
  plan-accepted = go (verdict file) refl
    where
      go : (u : Verdict) → verdict file ≡ u → verdict file ≡ accept
      go (Ok u) e = e
      go (Err x) e = absurd (never_both (a.refused x e))

  pub plan-right : wrong_point (block_count (task_of file)) (chosen p) ≡ None
  plan-right =
      lowest-none (right_point (block_count (task_of file))) 0 (steps 0 (chosen p)) ((a.planned plan-accepted).best p refl).least-cost.well-formed

  pub count-chosen : p.count ≡ length (chosen p)
  unfolding plan_for
  count-chosen = ap (λ (q : Plan). q.count) ((a.planned plan-accepted).follows p refl)

  pub plan-count : p.count ≤ length p.points
  plan-count = omega (arith, count-chosen, length-take p.count p.points)
