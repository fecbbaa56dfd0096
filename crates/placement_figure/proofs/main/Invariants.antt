-- Each edge that has its choice leads upward.
use Rattle.std.proofs.Common.{◌≡◌, ◌<◌, ◌≤◌, ℕ, List, length, get_or}
use Rattle.placement_figure.proofs.main.Given as goal

-- the next edges of the edges from a on
pub record Upward (nexts : List ℕ) (a : ℕ) : Type 0 where
  pub edge : a ≤ 6
  pub long : length nexts ≡ 65
  pub above : (k : ℕ) → a ≤ k → k < 6 → k < get_or nexts k 0
  pub within : (k : ℕ) → a ≤ k → k < 6 → get_or nexts k 0 ≤ 6

abbrev pub invariant-loop-a : goal.invariant-loop-a
invariant-loop-a l = Upward l.nexts l.a
