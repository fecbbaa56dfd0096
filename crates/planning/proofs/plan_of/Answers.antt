-- `planning::plan_of` meets its contract: N and id are read from the file.
use mathlib.Core.Path.{ap}
use Rattle.model.specs.declared.Header.{Header}
use Rattle.planning.proofs.plan_of.Goals as goal

pub returns : goal.returns
returns c = cc (c.block_count-blocks.ensures.0, ap (λ (h : Header). h.id) c.header-header.ensures.0)
