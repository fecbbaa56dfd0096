-- `planblock::put_checksum` meets its contract: a sealed body is the block.
use Rattle.planblock.specs.Plans.{plan_bytes}
use Rattle.planblock.proofs.put_checksum.Goals as goal

pub returns : goal.returns
unfolding plan_bytes
returns c = rw (c.seal.ensures, c.requires.out_value)
