-- `planblock::store` meets its contract: past both checks the buffer has its length and the plan its count.
use mathlib.Core.Path.{sym, ◌∙◌}
use Rattle.model.proofs.Verdicts.{output-size}
use Rattle.planvalue.proofs.Verdicts.{count-accepted}
use Rattle.planblock.proofs.store.Goals as goal

pub put_block-requires-clause-out_len : goal.put_block-requires-clause-out_len
put_block-requires-clause-out_len c = output-size _ _ (sym c.check_output.ensures ∙ c.in_ok-check_output.was)

pub put_block-requires-clause-count_bound : goal.put_block-requires-clause-count_bound
put_block-requires-clause-count_bound c = count-accepted c.args.plan (sym c.check.ensures ∙ c.in_ok-check.was)
