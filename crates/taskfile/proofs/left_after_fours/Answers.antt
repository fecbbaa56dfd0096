-- `taskfile::left_after_fours` meets its contract. The loop's invariant: the lowest wrong block is the lowest of those that are left.
-- The measure is how many are left.
use mathlib.Core.Path.{sym, ◌∙◌}
use native.Mathlib.Omega.{arith}
use Rattle.taskfile.specs.File.{blocks_in, sum_right}
use Rattle.taskfile.proofs.Frames.{scan-four}
use Rattle.taskfile.proofs.left_after_fours.Goals as goal

pub loop-left-init : goal.loop-left-init
unfolding blocks_in
loop-left-init c = c.left_after_few-left.ensures

pub returns-then-not-four_right : goal.returns-then-not-four_right
unfolding blocks_in
returns-then-not-four_right c = c.loop-left.invariant

pub loop-left-preserved : goal.loop-left-preserved
unfolding blocks_in
loop-left-preserved c = (
  omega arith,
  c.loop-left.invariant.1 ∙
      scan-four (sum_right c.args.file.now) _ _ _ _ (omega arith) (omega arith) (omega arith)
      (sym c.four_right.ensures ∙ c.if-not-four_right.false),
)

pub returns : goal.returns
unfolding blocks_in
returns c = c.loop-left.invariant

pub overflow_sub-count : goal.overflow_sub-count
unfolding blocks_in
overflow_sub-count c = omega arith

pub four_right-requires : goal.four_right-requires
unfolding blocks_in
four_right-requires c = omega arith
