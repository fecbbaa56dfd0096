-- `demand::test_set` meets its contract.
use Rattle.demand.proofs.Answers.{accepted-set, accepted-answer, refused-answer}
use Rattle.demand.proofs.test_set.Goals as goal

pub first_miss-requires : goal.first_miss-requires
first_miss-requires c = accepted-set _ _ _ _ c.right_set.ensures c.if-right_set-horizon.true

pub returns-then-right_set-horizon : goal.returns-then-right_set-horizon
returns-then-right_set-horizon c = accepted-answer _ _ _ _ c.right_set.ensures _ c.if-right_set-horizon.true c.first_miss.ensures

pub returns-else-right_set-horizon : goal.returns-else-right_set-horizon
returns-else-right_set-horizon c = refused-answer _ _ _ _ c.right_set.ensures c.if-right_set-horizon.false
