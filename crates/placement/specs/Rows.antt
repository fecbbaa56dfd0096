-- What the steps of a placement answer: for each edge the least cost from it to the end, and the next edge on the way. fit, cost and tally are any
-- functions of a region's two edges. Assumes nothing.
use Rattle.std.specs.Prelude.{◌≡◌, ℕ, ◌+◌, ◌-◌, ◌%◌, ◌^◌, ◌<◌, ◌≤◌, Bool, true, ◌⊎◌, List, [], ◌∷◌, take, drop, replicate, slice_index, slice_index_or}
use Rattle.placement.specs.declared.Choice.{Choice}

-- the mark of an edge from which no list leads to the end
abbrev pub none : ℕ
none = 18446744073709551615

-- at edge a, of the next edges up to b: c has one that the region from a fits to and that costs least, with the cost and the tally of the region and of what
-- is at that edge; of several it is n, and else the lowest. Where there is none c has the mark. Each cost of a region that fits is below 2 ^ 56
pub record Tried (fit : ℕ → ℕ → Bool) (cost tally : ℕ → ℕ → ℕ) (costs tallies : List ℕ) (n a b : ℕ) (c : Choice) : Type 0 where
  pub above : a < c.next
  pub within : c.next ≤ n
  pub most : c.cost ≤ none
  pub small : (k : ℕ) → a < k → k ≤ b → fit a k ≡ true → cost a k < 2 ^ 56
  pub fits : c.cost < none → fit a c.next ≡ true
  pub attained : c.cost < none → c.cost ≡ cost a c.next + slice_index costs c.next
  pub tallied : c.cost < none → c.tally ≡ (tally a c.next + slice_index tallies c.next) % 2 ^ 64
  pub least : (k : ℕ) → a < k → k ≤ b → fit a k ≡ true → c.cost ≤ cost a k + slice_index costs k
  pub not_end : c.next < n → n ≤ b → fit a n ≡ true → c.cost < cost a n + slice_index costs n
  pub lowest : (k : ℕ) → a < k → k < c.next → c.next < n → fit a k ≡ true → c.cost < cost a k + slice_index costs k

-- edge b is tried, after those below it: from whatever edge a, with the cost x and the tally y of the region from a to b
pub record Tries (costs tallies : List ℕ) (n b x y : ℕ) (before after : Choice) : Type 0 where
  pub next-is : (after.next ≡ before.next) ⊎ (after.next ≡ b)
  pub tried : (fit : ℕ → ℕ → Bool) (cost tally : ℕ → ℕ → ℕ) (a : ℕ) → a < b → fit a b ≡ true → x ≡ cost a b → y ≡ tally a b
      → Tried fit cost tally costs tallies n a (b - 1) before → Tried fit cost tally costs tallies n a b after

-- the arrays hold, for each edge from a on, the choice of all next edges
pub record Rows (fit : ℕ → ℕ → Bool) (cost tally : ℕ → ℕ → ℕ) (n a : ℕ) (costs nexts tallies : List ℕ) : Type 0 where
  pub end : slice_index_or costs n 0 ≡ 0
  pub end-tally : slice_index_or tallies n 0 ≡ 0
  pub row : (k : ℕ) → a ≤ k → k < n
      → Tried fit cost tally costs tallies n k n (record { cost = slice_index costs k; next = slice_index nexts k; tally = slice_index tallies k })

-- ps are the points on the way from edge a, along the next edges, to edge n; a is the first unless it is n
unfoldable pub Leads : List ℕ → ℕ → ℕ → List ℕ → Type 0
Leads nexts n a [] = a ≡ n
Leads nexts n a (p ∷ ps) = (a ≡ p) × (p < n) × Leads nexts n (slice_index nexts p) ps

-- each next edge is above its edge, and at most n
pub record Rising (nexts : List ℕ) (n : ℕ) : Type 0 where
  pub above : (k : ℕ) → k < n → k < slice_index nexts k
  pub within : (k : ℕ) → k < n → slice_index nexts k ≤ n

-- count points on the way from edge 0 to edge n, and zeros beyond
pub record Followed (nexts : List ℕ) (n count : ℕ) (points : List ℕ) : Type 0 where
  pub leads : Leads nexts n (slice_index nexts 0) (take count points)
  pub fewer : count < n
  pub beyond : drop count points ≡ replicate (64 - count) 0
