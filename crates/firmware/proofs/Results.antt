-- What planning returns and leaves is one number and one block for a file: a stored plan is that of the first list of least cost, and that list is one.
-- Assumes nothing.
use Rattle.std.specs.Prelude.{Err, Ok}
use Prim.Native.Nat.{ℕ}
use mathlib.Core.Path.{◌≡◌, refl, sym, ap, ◌∙◌}
use mathlib.Core.Logic.{◌⊎◌, inl, inr}
use mathlib.Core.List.{List}
use native.Mathlib.Omega.{arith}
use Rattle.model.specs.Task.{Task, block_count}
use Rattle.model.specs.Regions.{region_fits, region_cost, NoPlacementFits}
use Rattle.model.specs.Answers.{Verdict, place}
use Rattle.model.specs.Planning.{plan_for}
use Rattle.model.specs.declared.Refusal.{Refusal}
use Rattle.model.specs.declared.Refusal.TheVariants.{Length, Checksum, WrongHeader, BlockCount, WrongBlock, NoPlacement, Argument, AboveLimit, Output, OutOfRange, Mismatch, TooManyBlocks, WrongTraceLine, WrongTrace, LongTask, WrongTaskSet, WrongText}
use Rattle.model.proofs.Order.{one-first}
use Rattle.taskfile.specs.File.{task_of}
use Rattle.planblock.specs.Plans.{plan_bytes}
use Rattle.firmware.specs.Calls.{returned, plan_checks, PlanCall, StoredBest}
use Rattle.firmware.specs.Statements.{OneCall, OneBlock}

-- what is promised for an accepted file and a block of 512 bytes
abbrev Outcome : List ℕ → List ℕ → ℕ → List ℕ → Type 0
Outcome file block r left =
    (NoPlacementFits (task_of file) × (r ≡ returned (Err NoPlacement) 0) × (left ≡ block)) ⊎ (StoredBest (task_of file) left × (r ≡ 0))

one-stored : (t : Task) (left right : List ℕ) → StoredBest t left → StoredBest t right → left ≡ right
one-stored t left right a b =
    let same = one-first (block_count t) (region_fits t) (region_cost t) a.points b.points a.best b.best in
    a.bytes ∙ ap (λ (ps : List ℕ). plan_bytes (plan_for t ps)) same ∙ sym b.bytes

stored-fits : (t : Task) (left : List ℕ) → StoredBest t left → NoPlacementFits t → ⊥
stored-fits t left a none = none a.points a.best.least-cost.well-formed a.best.least-cost.fits

pub one-call : OneCall
one-call file block r s left right a b = go (plan_checks file block) refl
  where
    alike : {x : ℕ} → (r ≡ x) × (left ≡ block) → (s ≡ x) × (right ≡ block) → (r ≡ s) × (left ≡ right)
    alike one other = (one.0 ∙ sym other.0, one.1 ∙ sym other.1)

    both : Outcome file block r left → Outcome file block s right → (r ≡ s) × (left ≡ right)
    both (inl one) (inl other) = alike (one.1, one.2) (other.1, other.2)
    both (inl one) (inr other) = absurd (stored-fits (task_of file) right other.0 one.0)
    both (inr one) (inl other) = absurd (stored-fits (task_of file) left one.0 other.0)
    both (inr one) (inr other) = (one.1 ∙ sym other.1, one-stored (task_of file) left right one.0 other.0)

    go : (v : Verdict) → plan_checks file block ≡ v → (r ≡ s) × (left ≡ right)
    go (Err x) e = alike (a.refused x e) (b.refused x e)
    go (Ok u) e = both (a.planned e) (b.planned e)

-- no refusal returns 0
refused-returns : (x : Refusal) → 0 ≡ returned (Err x) (place x) → ⊥
refused-returns Length e = omega arith
refused-returns (Checksum k) e = omega arith
refused-returns WrongHeader e = omega arith
refused-returns BlockCount e = omega arith
refused-returns (WrongBlock k) e = omega arith
refused-returns NoPlacement e = omega arith
refused-returns (Argument i) e = omega arith
refused-returns (AboveLimit i) e = omega arith
refused-returns Output e = omega arith
refused-returns OutOfRange e = omega arith
refused-returns Mismatch e = omega arith
refused-returns TooManyBlocks e = omega arith
refused-returns (WrongTraceLine i) e = omega arith
refused-returns WrongTrace e = omega arith
refused-returns LongTask e = omega arith
refused-returns WrongTaskSet e = omega arith
refused-returns (WrongText i) e = omega arith

is-stored : (file block left : List ℕ) → PlanCall file block 0 left → StoredBest (task_of file) left
is-stored file block left a = go (plan_checks file block) refl
  where
    found : Outcome file block 0 left → StoredBest (task_of file) left
    found (inl none) = absurd (refused-returns NoPlacement none.1)
    found (inr some) = some.0

    go : (v : Verdict) → plan_checks file block ≡ v → StoredBest (task_of file) left
    go (Ok u) e = found (a.planned e)
    go (Err x) e = absurd (refused-returns x (a.refused x e).0)

pub one_block : OneBlock
one_block file block other left right a b = one-stored (task_of file) left right (is-stored file block left a) (is-stored file other right b)
