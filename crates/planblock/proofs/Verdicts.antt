-- Laws of verdicts on blocks: too many points are wrong, and a read's refusals are all at place 0.
-- Assumes nothing.
use Rattle.std.specs.Prelude.{Err}
use Prim.Native.Nat.{ℕ, ◌<◌}
use mathlib.Core.Path.{◌≡◌, refl}
use mathlib.Core.Bool.{Bool, true, false, cond, and-false}
use mathlib.Core.List.{List}
use lib.Dec.{eqb}
use lib.ListN.{length}
use borrow.Author.Tests.{lt-leb}
use Rattle.model.specs.Answers.{accept, verdict_place}
use Rattle.model.specs.declared.Refusal.TheVariants.{Length, Checksum, WrongBlock}
use Rattle.block.specs.Bytes.{field}
use Rattle.block.specs.Blocks.{checksum_right}
use Rattle.planvalue.specs.Values.{plan_in_range, plan_verdict}
use Rattle.planblock.specs.Plans.{plan_of, plan_right, read_verdict}

-- a block with more points is wrong
pub count-wrong : (bs : List ℕ) → 63 < field bs 4 2 → plan_right bs ≡ false
unfolding plan_right plan_verdict plan_in_range plan_of
count-wrong bs h = rw (lt-leb (field bs 4 2) 63 h, and-false)

-- a read's refusals are all at place 0
pub read-place : (bs : List ℕ) → verdict_place (read_verdict bs) ≡ 0
unfolding read_verdict
read-place bs = go (eqb (length bs) 512) (checksum_right bs) (plan_right bs)
  where
    go : (a b c : Bool) → verdict_place (cond a (cond b (cond c accept (Err (WrongBlock 0))) (Err (Checksum 0))) (Err Length)) ≡ 0
    go true true true = refl
    go true true false = refl
    go true false c = refl
    go false b c = refl
