-- `demand::right_set` meets its contract.
use Rattle.std.proofs.Common.{◌∙◌, sym, inl, inr, arith}
use Rattle.demand.proofs.Ranges.{all_right, set-rights, set-wrong}
use Rattle.demand.proofs.right_set.Goals as goal

pub returns-then-count-lt1 : goal.returns-then-count-lt1
returns-then-count-lt1 c = sym (set-wrong _ _ (inl (omega arith)))

pub returns-then-count-gt16 : goal.returns-then-count-gt16
returns-then-count-gt16 c = sym (set-wrong _ _ (inr (omega arith)))

pub returns : goal.returns
returns c = c.right_tasks.ensures ∙ all_right _ ∙ sym (set-rights _ _ (omega arith) (omega arith))
