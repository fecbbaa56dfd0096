-- The ticks so far are at most 2^32 - 1 for each block.
use Rattle.std.proofs.Common.{◌*◌, ◌≤◌}
use Rattle.picture.proofs.collect_blocks.Given as goal

abbrev pub invariant-loop-i : goal.invariant-loop-i
invariant-loop-i g l = l.from ≤ l.i * 4294967295
