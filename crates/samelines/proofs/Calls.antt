-- Each call answers alike on both files: both are accepted, and what else an answer is made of is the same of their tasks.
-- Assumes nothing.
use Rattle.model.specs.declared.Refusal.{Refusal}
use Rattle.std.specs.Prelude.{Err, Result}
use Prim.Native.Nat.{ℕ}
use mathlib.Core.Path.{◌≡◌, sym, ◌∙◌, fun_ext}
use mathlib.Core.Logic.{◌⊎◌, inl, inr}
use mathlib.Core.List.{List}
use Rattle.model.specs.Task.{Task}
use Rattle.model.specs.Regions.{FirstBest, NoPlacementFits}
use Rattle.model.specs.Answers.{pricing}
use Rattle.model.specs.Planning.{plan_for, Planned}
use Rattle.model.specs.declared.Plan.{Plan}
use Rattle.model.specs.declared.Refusal.TheVariants.{NoPlacement}
use Rattle.model.proofs.Seen.{SeenAlike}
use Rattle.model.proofs.Verdicts.{never_both}
use Rattle.taskfile.specs.File.{verdict, task_of}
use Rattle.planner.specs.Calls.{edge_verdict, useful_words, next_read_of, looked_of, region_verdict, loaded_words, length_of, price_verdict, price_lines, price_cost, block_verdict, block_place, block_plan}
use Rattle.planner.proofs.OneAnswer.{one_answer}
use Rattle.replaying.specs.Calls.{replay_verdict, misses_alone_of, misses_with_of}
use Rattle.firmware.specs.Calls.{returned, StoredBest, price_call_verdict, price_returned, price_left}
use Rattle.firmware.proofs.Results.{one-call}
use Rattle.samelines.specs.Files.{SameLines}
use Rattle.samelines.specs.Statements.{UsefulAlike, SearchAlike, RegionAlike, PriceAlike, BlockAlike, PlanAlike, PlansEqual, ReplayAlike, PlanCallAlike, PlanCallsEqual, PriceCallAlike}
use Rattle.samelines.proofs.Tasks.{tasks-alike}

-- of two tasks of which the calls see the same

module _ (t u : Task) (a : SeenAlike t u) where
  pricing-alike : (ps : List ℕ) → pricing t ps ≡ pricing u ps
  pricing-alike ps = rw (a.count, a.region-fits)

  plan-for-alike : (ps : List ℕ) → plan_for t ps ≡ plan_for u ps
  unfolding plan_for
  plan-for-alike ps = rw (a.region-lines, a.region-cost, a.count, a.header)

  first_alike : (ps : List ℕ) → FirstBest t ps → FirstBest u ps
  first_alike ps b = rw (a.count, a.region-fits, a.region-cost) at b

  none_alike : NoPlacementFits t → NoPlacementFits u
  none_alike none = rw (a.count, a.region-fits) at none

  none-back : NoPlacementFits u → NoPlacementFits t
  none-back none = rw (a.count, a.region-fits) none

  planned-alike : (r : Result Plan Refusal) → Planned t r → Planned u r
  planned-alike r known =
      record {
        answers = known.answers;
        best = λ p e. first_alike _ (known.best p e);
        follows = λ p e. known.follows p e ∙ plan-for-alike _;
        none-fits = λ e. none_alike (known.none-fits e);
        exactly = λ none. known.exactly (none-back none);
      }

-- of two files

module _ (file other : List ℕ) (s : SameLines file other) where
  tasks : SeenAlike (task_of file) (task_of other)
  tasks = tasks-alike file other s

  verdict-alike : verdict file ≡ verdict other
  verdict-alike = s.accepted ∙ sym s.other-accepted

  edge-alike : edge_verdict file ≡ edge_verdict other
  unfolding edge_verdict
  edge-alike = fun_ext (λ k. rw (verdict-alike, tasks.count))

  useful-words-alike : useful_words file ≡ useful_words other
  unfolding useful_words
  useful-words-alike = fun_ext (λ k. rw (edge-alike, tasks.useful-lines))

  next-read-alike : next_read_of file ≡ next_read_of other
  unfolding next_read_of
  next-read-alike = fun_ext (λ c. fun_ext (λ k. rw (edge-alike, tasks.next-read)))

  looked-alike : looked_of file ≡ looked_of other
  unfolding looked_of
  looked-alike = fun_ext (λ c. fun_ext (λ k. rw (edge-alike, tasks.looked-at)))

  region-verdict-alike : region_verdict file ≡ region_verdict other
  unfolding region_verdict
  region-verdict-alike = fun_ext (λ a. fun_ext (λ b. rw (verdict-alike, tasks.count)))

  loaded-alike : loaded_words file ≡ loaded_words other
  unfolding loaded_words
  loaded-alike = fun_ext (λ a. fun_ext (λ b. rw (region-verdict-alike, tasks.loaded_lines)))

  length-alike : length_of file ≡ length_of other
  unfolding length_of
  length-alike = fun_ext (λ a. fun_ext (λ b. rw (region-verdict-alike, tasks.region-length)))

  price-verdict-alike : price_verdict file ≡ price_verdict other
  unfolding price_verdict
  price-verdict-alike = fun_ext (λ ps. rw (verdict-alike, pricing-alike _ _ tasks))

  price-lines-alike : price_lines file ≡ price_lines other
  unfolding price_lines
  price-lines-alike = fun_ext (λ ps. rw (price-verdict-alike, tasks.count, tasks.region-lines))

  price-cost-alike : price_cost file ≡ price_cost other
  unfolding price_cost
  price-cost-alike = fun_ext (λ ps. rw (price-verdict-alike, tasks.count, tasks.region-cost))

  block-verdict-alike : block_verdict file ≡ block_verdict other
  unfolding block_verdict
  block-verdict-alike = fun_ext (λ block. rw (verdict-alike, pricing-alike _ _ tasks))

  block-place-alike : block_place file ≡ block_place other
  unfolding block_place
  block-place-alike = fun_ext (λ block. rw (verdict-alike, block-verdict-alike))

  block-plan-alike : block_plan file ≡ block_plan other
  unfolding block_plan
  block-plan-alike = fun_ext (λ block. rw (plan-for-alike _ _ tasks))

  replay-verdict-alike : replay_verdict file ≡ replay_verdict other
  unfolding replay_verdict
  replay-verdict-alike = fun_ext (λ ps. rw (verdict-alike, tasks.count))

  misses-alone-alike : misses_alone_of file ≡ misses_alone_of other
  unfolding misses_alone_of
  misses-alone-alike = fun_ext (λ ps. rw (replay-verdict-alike, tasks.misses-alone))

  misses-with-alike : misses_with_of file ≡ misses_with_of other
  unfolding misses_with_of
  misses-with-alike = fun_ext (λ ps. rw (replay-verdict-alike, tasks.misses-with))

  returned-alike : price_returned file ≡ price_returned other
  unfolding price_returned price_call_verdict
  returned-alike = fun_ext (λ points. fun_ext (λ block. rw (block-place-alike, block-verdict-alike)))

  left-alike : price_left file ≡ price_left other
  unfolding price_left price_call_verdict
  left-alike = fun_ext (λ points. fun_ext (λ block. rw (block-verdict-alike, plan-for-alike _ _ tasks)))

pub useful-alike : UsefulAlike
useful-alike = (edge-alike, useful-words-alike)

pub search-alike : SearchAlike
search-alike = (edge-alike, next-read-alike, looked-alike)

pub region-alike : RegionAlike
region-alike = (region-verdict-alike, loaded-alike, length-alike)

pub price-alike : PriceAlike
price-alike = (price-verdict-alike, price-lines-alike, price-cost-alike)

pub block-alike : BlockAlike
block-alike = (block-verdict-alike, block-place-alike, block-plan-alike)

pub replay-alike : ReplayAlike
replay-alike = (replay-verdict-alike, misses-alone-alike, misses-with-alike)

pub price-call-alike : PriceCallAlike
price-call-alike = (returned-alike, left-alike)

pub plan-alike : PlanAlike
plan-alike file other s r answer =
    record {
      refused = λ x e. absurd (never_both (sym s.other-accepted ∙ e));
      planned = λ e. planned-alike _ _ (tasks file other s) r (answer.planned s.accepted);
    }

pub plans-equal : PlansEqual
plans-equal file other s r q a b = one_answer other r q (plan-alike file other s r a) b

pub plan-call-alike : PlanCallAlike
plan-call-alike file other s block r left call =
    record { refused = λ x e. call.refused x (rw (verdict-alike file other s) e); planned = λ e. go (call.planned (rw (verdict-alike file other s) e)) }
  where
    go : (NoPlacementFits (task_of file) × (r ≡ returned (Err NoPlacement) 0) × (left ≡ block)) ⊎ (StoredBest (task_of file) left × (r ≡ 0))
        → (NoPlacementFits (task_of other) × (r ≡ returned (Err NoPlacement) 0) × (left ≡ block)) ⊎ (StoredBest (task_of other) left × (r ≡ 0))
    go (inl none) = inl (none_alike _ _ (tasks file other s) none.0, none.1, none.2)
    go (inr best) =
        inr (
          record {
            points = best.0.points;
            best = first_alike _ _ (tasks file other s) _ best.0.best;
            bytes = best.0.bytes ∙ rw (plan-for-alike _ _ (tasks file other s));
          },
          best.1,
        )

pub plan-calls-equal : PlanCallsEqual
plan-calls-equal file other s block r q left right a b = one-call other block r q left right (plan-call-alike file other s block r left a) b
