-- `planner::price_block` meets its contract: the first refusal of the file and the block, or the price of the block's points.
use mathlib.Core.Path.{◌≡◌, sym, subst, ◌∙◌}
use native.Mathlib.Omega.{arith}
use Rattle.std.specs.Prelude.{Result, Ok, Err}
use Rattle.std.specs.Result.{IsErrAnd}
use Rattle.model.specs.Answers.{accept, place}
use Rattle.model.proofs.Verdicts.{answered-ok, answered-err}
use Rattle.answers.proofs.Places.{second-place, refused-as}
use Rattle.answers.proofs.Mapped.{mapped-ok, mapped-err}
use Rattle.taskfile.specs.File.{verdict}
use Rattle.planvalue.proofs.Verdicts.{count-accepted}
use Rattle.planblock.specs.Plans.{read_verdict, plan_of}
use Rattle.planblock.proofs.Verdicts.{read-place}
use Rattle.planblock.proofs.Roundtrip.{store-back, zeros-after}
use Rattle.planner.specs.Calls.{block_verdict, block_place, block_plan}
use Rattle.planner.proofs.price_block.Goals as goal
use Rattle.planner.proofs.price_block.Goals.{In_ok-check, In_ok-first}

-- what is said of an error, said of the answer that carries it on
told : {A D : Type 0} (P : D → Type 0) (s : Result A D) (f : D) → IsErrAnd s (λ y. y ≡ f) → P f → IsErrAnd s P
told P (Ok a) f h p = absurd h
told P (Err y) f h p = subst P (sym h) p

-- the file is accepted
accepted : (c : goal.In_ok-check) → verdict c.args.file.now ≡ accept
accepted c = sym c.check.ensures ∙ c.in_ok-check.was

pub returns-in_err-check : goal.returns-in_err-check
unfolding block_verdict block_place block_plan
returns-in_err-check c =
    let f = sym c.check.ensures ∙ c.in_err-check.was in
    rw f (refused-as _ _ _ c.from_residual.ensures.1)

pub returns-in_err-first : goal.returns-in_err-first
unfolding block_verdict block_place block_plan
returns-in_err-first c =
    let own = mapped-err _ _ _ _ c.map_err.ensures.cases c.in_err-first.was in
    let refused = answered-err _ _ _ (sym c.read.ensures ∙ own.1) in
    let small = rw refused at (read-place c.args.block.now) in
    rw (accepted (goal.at.returns-in_err-first c).In_ok-check, refused)
    (refused-as _ _ _ (told _ _ _ c.from_residual-in_err-first.ensures.1 (own.2.0, own.2.1 ∙ second-place (place own.0) (omega (arith, small)))))

-- the block is read
module _ (c : goal.In_ok-first) where
  read : (read_verdict c.args.block.now ≡ accept) × (plan_of c.args.block.now ≡ c.in_ok-first.first)
  read = answered-ok _ _ _ (sym c.read.ensures ∙ mapped-ok _ _ _ _ c.map_err.ensures.cases c.in_ok-first.was)

pub price_points-requires-clause-count_bound : goal.price_points-requires-clause-count_bound
price_points-requires-clause-count_bound c =
    let block = c.args.block.now in
    let known = read (goal.at.price_points-requires-clause-count_bound c).In_ok-first in
    rw (← known.1) (count-accepted (plan_of block) (store-back block known.0).0, zeros-after block)

pub returns-in_err-price_points : goal.returns-in_err-price_points
unfolding block_verdict block_place block_plan
returns-in_err-price_points c =
    let known = read (goal.at.returns-in_err-price_points c).In_ok-first in
    let refused = answered-err _ _ _ (sym c.price_points.ensures ∙ c.in_err-price_points.was) in
    rw (accepted (goal.at.returns-in_err-price_points c).In_ok-check, known.0, known.1, refused) (refused-as _ _ _ c.from_residual-in_err-price_points.ensures.1)

pub returns : goal.returns
unfolding block_verdict block_place block_plan
returns c =
    let known = read (goal.at.returns c).In_ok-first in
    let priced = answered-ok _ _ _ (sym c.price_points.ensures ∙ c.in_ok-price_points.was) in
    rw (accepted (goal.at.returns c).In_ok-check, known.0, known.1, priced.0, ← priced.1)
