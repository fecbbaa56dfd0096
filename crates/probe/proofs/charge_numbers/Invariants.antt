-- `probe::charge_numbers` meets its contract. The loop's invariant: lines and cost are in place, and the charges passed.
use Prim.Native.Nat.{ℕ, ◌+◌, ◌-◌, ◌≤◌, ◌<◌}
use mathlib.Core.Path.{◌≡◌}
use mathlib.Core.List.{List}
use lib.ListN.{length, get_or}
use Rattle.probe.proofs.charge_numbers.Given as goal

-- lines and cost, and the first i charges
pub record Placed (lines cost : ℕ) (charges numbers : List ℕ) (i : ℕ) : Type 0 where
  pub long : length numbers ≡ 34
  pub few : i ≤ 32
  pub lines_are : get_or numbers 0 0 ≡ lines
  pub cost-is : get_or numbers 1 0 ≡ cost
  pub charges-are : (k : ℕ) → k < i → get_or numbers (k + 2) 0 ≡ get_or charges k 0

abbrev pub invariant-loop-k : goal.invariant-loop-k
invariant-loop-k l = Placed l.lines l.cost l.charges l.numbers l.k

abbrev pub decreases-loop-k : goal.decreases-loop-k
decreases-loop-k l = 32 - l.k
