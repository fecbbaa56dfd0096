-- `listing::points_of` meets its contract. The loop's invariant: the points so far and those that are left make the whole list.
use Prim.Native.Nat.{ℕ, ◌-◌, ◌<◌}
use mathlib.Core.Path.{◌≡◌}
use mathlib.Core.List.{List, ◌++◌}
use lib.ListN.{length, take, drop, replicate}
use Rattle.enumerating.specs.Numbers.{list_of}
use Rattle.enumerating.proofs.Walks.{left}
use Rattle.listing.proofs.points_of.Given as goal

-- the first points of the list of number m are stored, zeros follow them, and the points from edge to on are left
pub record Collected (n m : ℕ) (points : List ℕ) (count to rest : ℕ) : Type 0 where
  pub edge : count < to
  pub long : length points ≡ 16
  pub beyond : drop count points ≡ replicate (16 - count) 0
  pub so_far : list_of n m ≡ take count points ++ left n to rest

abbrev pub invariant-loop-to : goal.invariant-loop-to
invariant-loop-to l = Collected l.blocks l.number l.points l.count l.to l.bits
