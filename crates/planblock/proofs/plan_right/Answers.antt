-- `planblock::plan_right` meets its contract: a block is right where its plan is accepted and the frame is right.
use mathlib.Core.Path.{◌≡◌, refl, ap}
use native.Mathlib.Omega.{arith}
use Rattle.std.specs.Prelude.{Ok, Err, is_ok}
use Rattle.model.specs.Answers.{Verdict, accepted}
use Rattle.model.specs.declared.Plan.{Plan}
use Rattle.block.specs.Bytes.{field}
use Rattle.planblock.specs.Plans.{plan_of, plan_right}
use Rattle.planblock.proofs.Reading.{named-read}
use Rattle.planblock.proofs.plan_right.Goals as goal
use Rattle.planblock.proofs.plan_right.Goals.{Start}

-- the plan's count is that of the block
count-read : (c : goal.Start) → c.args.plan.count ≡ field c.args.bytes.now 4 2
unfolding plan_of
count-read c = ap (λ (p : Plan). p.count) c.requires.plan_value

is-ok : (v : Verdict) → accepted v ≡ is_ok v
is-ok (Ok u) = refl
is-ok (Err r) = refl

pub returns-then-is_ok : goal.returns-then-is_ok
unfolding plan_right
returns-then-is_ok c =
    let count = count-read (goal.at.returns-then-is_ok c).Start in
    rw (
      named-read c.args.bytes.now (λ i _. (c.type_inv.bytes i).fits) c.requires.bytes_len (omega arith),
      ← count,
      ← c.requires.plan_value,
      ← c.check.ensures,
      is-ok c.check.result,
      ← c.is_ok.ensures.value,
      c.if-is_ok.true,
    )
    c.body_right.ensures

pub returns-else-is_ok : goal.returns-else-is_ok
unfolding plan_right
returns-else-is_ok c =
    rw (← c.requires.plan_value, ← c.check.ensures, is-ok c.check.result, ← c.is_ok.ensures.value, c.if-is_ok.false)
