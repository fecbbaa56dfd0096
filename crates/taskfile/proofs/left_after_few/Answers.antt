-- `taskfile::left_after_few` meets its contract: what is left starts behind the first block, or among the first four where these are right, or behind them.
use mathlib.Core.Path.{sym, ◌∙◌}
use native.Mathlib.Nat.{sub_self}
use native.Mathlib.Omega.{arith}
use Rattle.taskfile.specs.File.{blocks_in, sum_right}
use Rattle.taskfile.proofs.Frames.{scan-four}
use Rattle.taskfile.proofs.left_after_few.Goals as goal

pub returns-then-count-eq1 : goal.returns-then-count-eq1
returns-then-count-eq1 c = c.left_after_first.ensures

pub returns-then-count-lt4 : goal.returns-then-count-lt4
unfolding blocks_in
returns-then-count-lt4 c = (omega arith, rw sub_self)

pub returns-then-not-four_right : goal.returns-then-not-four_right
unfolding blocks_in
returns-then-not-four_right c = (omega arith, rw sub_self)

pub returns : goal.returns
unfolding blocks_in
returns c = (
  omega arith,
  scan-four (sum_right c.args.file.now) _ _ _ _ (omega arith) (omega arith) (omega arith)
      (sym c.four_right.ensures ∙ c.if-not-four_right.false),
)
