-- `firmware::preempt_price` meets its contract: 9 for the block, and else what the planner answered.
use mathlib.Core.Path.{◌≡◌, refl, sym, ◌∙◌}
use native.Mathlib.Omega.{arith}
use lib.ListN.{length}
use Rattle.std.specs.Prelude.{Err}
use Rattle.model.specs.Answers.{accept, output_row}
use Rattle.model.proofs.Verdicts.{output-size}
use Rattle.answers.proofs.Places.{placed-ok, placed-err}
use Rattle.planner.specs.Calls.{block_verdict, block_place, block_plan}
use Rattle.firmware.specs.Calls.{price_call_verdict, price_returned, price_left}
use Rattle.firmware.proofs.Calls.{block-most, block-stores, block-free}
use Rattle.firmware.proofs.preempt_price.Goals as goal
use Rattle.firmware.proofs.preempt_price.Goals.{In-Ok, In-Err-price_block, After-price_block}

-- the block is of 512 bytes
row : (c : goal.After-price_block) → output_row 512 (length c.args.block.now) ≡ accept
row c = sym c.check_output.ensures ∙ c.in_default.is

-- the points are priced
priced : (c : goal.In-Ok) → (block_verdict c.args.file.now c.args.points.now ≡ accept) × (block_plan c.args.file.now c.args.points.now ≡ c.in-Ok.plan)
priced c = placed-ok _ _ _ _ (sym c.price_block.ensures ∙ c.in-Ok.is)

-- or refused
refused : (c : goal.In-Err-price_block) → (block_verdict c.args.file.now c.args.points.now ≡ Err c.in-Err-price_block.refused.refusal) × (block_place c.args.file.now c.args.points.now ≡ c.in-Err-price_block.refused.place)
refused c = placed-err _ _ _ _ (sym c.price_block.ensures ∙ c.in-Err-price_block.is)

pub returns-in-Err-clause-value : goal.returns-in-Err-clause-value
unfolding price_call_verdict price_returned
returns-in-Err-clause-value c = rw (sym c.check_output.ensures ∙ c.in-Err.is) c.returned.ensures

pub returns-in-Err-clause-block_after : goal.returns-in-Err-clause-block_after
unfolding price_call_verdict price_left
returns-in-Err-clause-block_after c = rw (sym c.check_output.ensures ∙ c.in-Err.is) refl

pub leave-requires : goal.leave-requires
leave-requires c =
    let here = priced (goal.at.leave-requires c).In-Ok in
    (output-size _ _ (row (goal.at.leave-requires c).After-price_block), rw (← here.1) (block-stores c.args.file.now c.args.points.now here.0))

pub returned-requires-in-Err-price_block : goal.returned-requires-in-Err-price_block
returned-requires-in-Err-price_block c =
    let here = refused (goal.at.returned-requires-in-Err-price_block c).In-Err-price_block in
    omega (arith, here.1, block-most c.args.file.now c.args.points.now)

pub returns-in-Ok-clause-value : goal.returns-in-Ok-clause-value
unfolding price_call_verdict price_returned
returns-in-Ok-clause-value c =
    let here = priced (goal.at.returns-in-Ok-clause-value c).In-Ok in
    rw (row (goal.at.returns-in-Ok-clause-value c).After-price_block, here.0, block-free c.args.file.now c.args.points.now here.0, c.leave.ensures.value)

pub returns-in-Ok-clause-block_after : goal.returns-in-Ok-clause-block_after
unfolding price_call_verdict price_left block_plan
returns-in-Ok-clause-block_after c =
    let here = priced (goal.at.returns-in-Ok-clause-block_after c).In-Ok in
    rw (row (goal.at.returns-in-Ok-clause-block_after c).After-price_block, here.0, c.leave.ensures.block_after, ← here.1)

pub returns-in-Err-price_block-clause-value : goal.returns-in-Err-price_block-clause-value
unfolding price_call_verdict price_returned
returns-in-Err-price_block-clause-value c =
    let here = refused (goal.at.returns-in-Err-price_block-clause-value c).In-Err-price_block in
    rw (row (goal.at.returns-in-Err-price_block-clause-value c).After-price_block, here.0, here.1) c.returned-in-Err-price_block.ensures

pub returns-in-Err-price_block-clause-block_after : goal.returns-in-Err-price_block-clause-block_after
unfolding price_call_verdict price_left
returns-in-Err-price_block-clause-block_after c =
    let here = refused (goal.at.returns-in-Err-price_block-clause-block_after c).In-Err-price_block in
    rw (row (goal.at.returns-in-Err-price_block-clause-block_after c).After-price_block, here.0) refl
