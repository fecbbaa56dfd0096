-- `planblock::plan_of` meets its contract: each field is the number in its bytes.
use Rattle.planblock.specs.Plans.{plan_of}
use Rattle.planblock.proofs.plan_of.Goals as goal

pub returns : goal.returns
unfolding plan_of
returns c =
    rw (c.u64_at.ensures, c.u16_at-2.ensures, c.u32_at.ensures, c.u16_at.ensures, c.points_of-points.ensures, c.u16_at-count.ensures)
