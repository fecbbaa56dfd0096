-- `taskfile::block_at` meets its contract: the part that starts at k * 512 and is 512 bytes long is block k.
use native.Mathlib.Nat.{mul_comm, add-sub_cancel_left}
use Rattle.taskfile.specs.File.{block_in}
use Rattle.taskfile.proofs.block_at.Goals as goal

pub returns : goal.returns
unfolding block_in
returns c = rw (add-sub_cancel_left, mul_comm c.args.k 512)
