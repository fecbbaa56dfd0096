-- The numbers that are filled in so far are at most the bound.
use Rattle.std.proofs.Common.{ℕ, ◌≤◌, ◌<◌, ◌≡◌, length}
use Rattle.std.specs.Prelude.{get_or}
use Rattle.desk.proofs.fill_arguments.Given as goal

abbrev pub invariant-loop-i : goal.invariant-loop-i
invariant-loop-i g l = (length l.numbers ≡ length l.initial.numbers) × ((j : ℕ) → j < l.i → get_or l.numbers j 0 ≤ l.most)
