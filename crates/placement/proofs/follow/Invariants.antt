-- `placement::follow` meets its contract. The loop's invariant: whatever list leads on from the edge that is reached, the points so far and that list lead from the first.
use Rattle.std.proofs.Common.{◌≡◌, ℕ, ◌-◌, ◌<◌, ◌≤◌, List, ◌++◌, length, get_or, take, drop, replicate}
use Rattle.placement.specs.Rows.{Leads}
use Rattle.placement.proofs.follow.Given as goal

-- count points so far, up to edge a
pub record Reached (nexts : List ℕ) (n : ℕ) (points : List ℕ) (count a : ℕ) : Type 0 where
  pub edge : count < a
  pub last : a ≤ n
  pub long : length points ≡ 64
  pub beyond : drop count points ≡ replicate (64 - count) 0
  pub leads : (ps : List ℕ) → Leads nexts n a ps → Leads nexts n (get_or nexts 0 0) (take count points ++ ps)

abbrev pub invariant-loop-at : goal.invariant-loop-at
invariant-loop-at l = Reached l.nexts l.n l.points l.count l.at

abbrev pub decreases-loop-at : goal.decreases-loop-at
decreases-loop-at l = l.n - l.at
