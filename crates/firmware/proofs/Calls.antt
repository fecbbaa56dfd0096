-- What the planner answers can be returned and stored: its places are at most 97, and an accepted plan fits a block.
-- Assumes nothing.
use Rattle.std.specs.Prelude.{Err, Ok, Result}
use Prim.Native.Nat.{ℕ, ◌+◌, ◌≤◌}
use mathlib.Core.Path.{◌≡◌, refl, sym, ap, ◌∙◌}
use mathlib.Core.Bool.{true}
use mathlib.Core.Logic.{◌⊎◌, inl, inr}
use mathlib.Core.List.{List}
use native.Mathlib.Omega.{arith}
use lib.ListN.{length, length-take}
use Rattle.model.specs.Task.{block_count}
use Rattle.model.specs.Lists.{well_formed}
use Rattle.model.specs.Regions.{NoPlacementFits}
use Rattle.model.specs.Answers.{accept, Verdict, place, verdict_place, and_then, output_row, pricing, most_blocks}
use Rattle.model.specs.Planning.{chosen, plan_for, Planned}
use Rattle.model.specs.declared.Plan.{Plan}
use Rattle.model.specs.declared.Refusal.{Refusal}
use Rattle.model.specs.declared.Refusal.TheVariants.{NoPlacement, Output}
use Rattle.model.proofs.Verdicts.{never_both, err-same, both-accepted, output-refuses}
use Rattle.model.proofs.Regions.{accepted-well-formed}
use Rattle.model.proofs.Places.{then-most, of-most, pricing-most}
use Rattle.taskfile.specs.File.{verdict, task_of}
use Rattle.taskfile.proofs.Accepted as files
use Rattle.taskfile.proofs.Places.{verdict-most}
use Rattle.planvalue.specs.Values.{plan_verdict}
use Rattle.planvalue.proofs.Verdicts.{count-accepted}
use Rattle.planvalue.proofs.Lists.{list-stores}
use Rattle.planblock.specs.Plans.{plan_bytes, read_verdict, plan_of}
use Rattle.planblock.proofs.Verdicts.{read-place}
use Rattle.planblock.proofs.Roundtrip.{store-back}
use Rattle.planner.proofs.Planned.{plan-accepted}
use Rattle.planner.specs.Calls.{PlanAnswer, block_verdict, block_input, block_place, block_plan}
use Rattle.firmware.specs.Calls.{returned, PlanCall, StoredBest}

-- the plan of a well-formed list of an accepted file
stores : (file ps : List ℕ) → verdict file ≡ accept → well_formed (block_count (task_of file)) ps ≡ true → plan_verdict (plan_for (task_of file) ps) ≡ accept
stores file ps e w =
    let a = files.accepted file e in
    let n = files.block-count file in
    list-stores (task_of file) ps (omega (arith, a.blocks-least, n)) (files.few-blocks file e) w

-- planning

pub plan-most : (file : List ℕ) (x : Refusal) → PlanAnswer file (Err x) → place x ≤ most_blocks
plan-most file x answer = go (verdict file) refl
  where
    none : ((p : Plan) × (◌≡◌ {A = Result Plan Refusal} (Err x) (Ok p))) ⊎ (◌≡◌ {A = Result Plan Refusal} (Err x) (Err NoPlacement)) → place x ≤ most_blocks
    none (inl (p, e)) = absurd (never_both (sym e))
    none (inr e) = rw (err-same e) (omega arith)

    go : (w : Verdict) → verdict file ≡ w → place x ≤ most_blocks
    go (Ok u) e = none (answer.planned e).answers
    go (Err y) e = rw (err-same (answer.refused y e)) (rw e at (verdict-most file))

pub plan-stores : (file : List ℕ) (p : Plan) → PlanAnswer file (Ok p) → plan_verdict p ≡ accept
plan-stores file p answer =
    let e = plan-accepted file p answer in
    let known = answer.planned e in
    rw (known.follows p refl) (stores file (chosen p) e (known.best p refl).least-cost.well-formed)

-- a block of another length is refused by 9 at 0
pub plan-output : (file block : List ℕ) (x : Refusal) (r : ℕ) → output_row 512 (length block) ≡ Err x → r ≡ returned (Err x) 0
    → PlanCall file block r block
plan-output file block x r row e =
    record {
      refused = λ y q.
          let nine : y ≡ Output = output-refuses 512 (length block) y (row ∙ rw row at q) in
          (rw nine (rw (output-refuses 512 (length block) x row) at e), refl);
      planned = λ q. absurd (never_both (sym (rw row at q)));
    }

-- a refusal of planning, and a plan that is left
module _ (file block : List ℕ) (long : output_row 512 (length block) ≡ accept) where
  pub plan-refuses : (x : Refusal) → PlanAnswer file (Err x) → PlanCall file block (returned (Err x) (place x)) block
  plan-refuses x answer =
      record {
        refused = λ y q. let same = err-same (answer.refused y (rw long at q)) in rw same (refl, refl);
        planned = λ q. let known = answer.planned (rw long at q) in none known known.answers;
      }
    where
      none : Planned (task_of file) (Err x) → ((p : Plan) × (◌≡◌ {A = Result Plan Refusal} (Err x) (Ok p))) ⊎ (◌≡◌ {A = Result Plan Refusal} (Err x) (Err NoPlacement))
          → (NoPlacementFits (task_of file) × (returned (Err x) (place x) ≡ returned (Err NoPlacement) 0) × (block ≡ block)) ⊎ (StoredBest (task_of file) block × (returned (Err x) (place x) ≡ 0))
      none known (inl (p, e)) = absurd (never_both (sym e))
      none known (inr e) = inl (known.none-fits e, rw (err-same e) refl, refl)

  pub plan-leaves : (p : Plan) (left : List ℕ) → PlanAnswer file (Ok p) → left ≡ plan_bytes p → PlanCall file block 0 left
  plan-leaves p left answer f =
      record {
        refused = λ y q. absurd (never_both (answer.refused y (rw long at q)));
        planned = λ q.
            let known = answer.planned (rw long at q) in
            inr (record { points = chosen p; best = known.best p refl; bytes = f ∙ ap plan_bytes (known.follows p refl) }, refl);
      }

-- pricing

module _ (file points : List ℕ) where
  -- an accepted answer's parts
  parts : block_verdict file points ≡ accept
      → (verdict file ≡ accept) × (read_verdict points ≡ accept) × (pricing (task_of file) (chosen (plan_of points)) ≡ accept)
  unfolding block_verdict
  parts e =
      let first = both-accepted (verdict file) (and_then (read_verdict points) (pricing (task_of file) (chosen (plan_of points)))) e in
      let second = both-accepted (read_verdict points) (pricing (task_of file) (chosen (plan_of points))) first.1 in
      (first.0, second.0, second.1)

  verdict-small : verdict_place (block_verdict file points) ≤ most_blocks
  unfolding block_verdict
  verdict-small =
      let p : Plan = plan_of points in
      then-most (verdict file) (and_then (read_verdict points) (pricing (task_of file) (chosen p))) most_blocks (verdict-most file)
      (λ a.
      then-most (read_verdict points) (pricing (task_of file) (chosen p)) most_blocks (omega (arith, read-place points))
      (λ b. omega (arith, pricing-most (task_of file) (chosen p), length-take p.count p.points, count-accepted p (store-back points b).0)))

  pub block-most : block_place file points ≤ most_blocks + most_blocks
  unfolding block_place
  block-most = omega (arith, verdict-small, of-most (block_input file points) (block_verdict file points))

  pub block-stores : block_verdict file points ≡ accept → plan_verdict (block_plan file points) ≡ accept
  unfolding block_plan
  block-stores e =
      let all = parts e in
      stores file (chosen (plan_of points)) all.0 (accepted-well-formed (task_of file) (chosen (plan_of points)) all.2)

  -- an accepted answer has place 0
  pub block-free : block_verdict file points ≡ accept → block_place file points ≡ 0
  unfolding block_place
  block-free e = let all = parts e in rw (e, all.0, all.1) refl
