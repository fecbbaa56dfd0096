-- Lists of preemption points and what follows from a region's cost and fit alone (document 01, "Stretches and price"; the order of lists is
-- document 02's, item 1).
-- n is the last edge; fit and cost are any functions of a region's two edges. Assumes nothing.
use Rattle.std.specs.Prelude.{ℕ, zero, suc, ◌+◌, ◌-◌, ◌≤◌, ◌≡◌, Bool, true, false, cond, ◌&&◌, ◌||◌, List, [], ◌∷◌, ◌++◌, map, eqb, ltb, None, Option, Some}

-- a region (document 01's stretch): the basic blocks after edge from, up to edge to
pub record Region : Type 0 where
  pub from : ℕ
  pub to : ℕ

-- each point with the one before it; a is before the first
unfoldable pub steps : ℕ → List ℕ → List Region
steps a [] = []
steps a (p ∷ ps) = record { from = a; to = p } ∷ steps p ps

-- the regions that a list of points cuts the blocks after edge a into, in order
unfoldable pub regions : ℕ → ℕ → List ℕ → List Region
regions n a [] = record { from = a; to = n } ∷ []
regions n a (p ∷ ps) = record { from = a; to = p } ∷ regions n p ps

-- f holds of each
unfoldable pub every : (ℕ → ℕ → Bool) → List Region → Bool
every f [] = true
every f (r ∷ rs) = f r.from r.to && every f rs

-- the sum of f
unfoldable pub total : (ℕ → ℕ → ℕ) → List Region → ℕ
total f [] = 0
total f (r ∷ rs) = f r.from r.to + total f rs

-- the lowest index, counted from i, at which f does not hold
unfoldable pub lowest : (ℕ → ℕ → Bool) → ℕ → List Region → Option ℕ
lowest f i [] = None
lowest f i (r ∷ rs) = cond (f r.from r.to) (lowest f (suc i) rs) (Some i)

-- the lowest k, of the n from a, at which f does not hold
unfoldable pub lowest_from : (ℕ → Bool) → ℕ → ℕ → Option ℕ
lowest_from f a zero = None
lowest_from f a (suc n) = cond (f a) (lowest_from f (suc a) n) (Some a)

-- a point p after the point a (0 for the first) is above it and below n
abbrev pub right_point : ℕ → ℕ → ℕ → Bool
right_point n a p = ltb a p && ltb p n

-- each point is right after the one before it: a well-formed list
abbrev pub well_formed : ℕ → List ℕ → Bool
well_formed n ps = every (right_point n) (steps 0 ps)

-- the lowest index of a wrong point
abbrev pub wrong_point : ℕ → List ℕ → Option ℕ
wrong_point n ps = lowest (right_point n) 0 (steps 0 ps)

-- a list fits if all its regions do
abbrev pub list_fits : (ℕ → ℕ → Bool) → ℕ → List ℕ → Bool
list_fits fit n ps = every fit (regions n 0 ps)

-- what a list costs: the sum over its regions
abbrev pub list_cost : (ℕ → ℕ → ℕ) → ℕ → List ℕ → ℕ
list_cost cost n ps = total cost (regions n 0 ps)

-- the lexicographic order of lists (document 02, item 1): where two part the lower point decides, and a list is before those that it begins
unfoldable pub before : List ℕ → List ℕ → Bool
before [] [] = false
before [] (q ∷ qs) = true
before (p ∷ ps) [] = false
before (p ∷ ps) (q ∷ qs) = ltb p q || eqb p q && before ps qs

-- demand 3 of a list: it is well formed, it fits, and no fitting list costs less; several lists may be so
pub record LeastCost (n : ℕ) (fit : ℕ → ℕ → Bool) (cost : ℕ → ℕ → ℕ) (ps : List ℕ) : Type 0 where
  pub well-formed : well_formed n ps ≡ true
  pub fits : list_fits fit n ps ≡ true
  pub least : (qs : List ℕ) → well_formed n qs ≡ true → list_fits fit n qs ≡ true → list_cost cost n ps ≤ list_cost cost n qs

-- the list that planning gives: of least cost, and before every other fitting list of equal cost (document 02, item 1)
pub record FirstOfLeast (n : ℕ) (fit : ℕ → ℕ → Bool) (cost : ℕ → ℕ → ℕ) (ps : List ℕ) : Type 0 where
  pub least-cost : LeastCost n fit cost ps
  pub first : (qs : List ℕ) → well_formed n qs ≡ true → list_fits fit n qs ≡ true → list_cost cost n qs ≡ list_cost cost n ps → (ps ≡ qs → ⊥)
      → before ps qs ≡ true

-- demand 3's refusal: no well-formed list fits
abbrev pub NoneFits : ℕ → (ℕ → ℕ → Bool) → Type 0
NoneFits n fit = (qs : List ℕ) → well_formed n qs ≡ true → list_fits fit n qs ≡ true → ⊥

-- two lists are the same
unfoldable pub same_list : List ℕ → List ℕ → Bool
same_list [] [] = true
same_list [] (q ∷ qs) = false
same_list (p ∷ ps) [] = false
same_list (p ∷ ps) (q ∷ qs) = eqb p q && same_list ps qs

unfoldable pub among : List ℕ → List (List ℕ) → Bool
among ps [] = false
among ps (qs ∷ qss) = same_list ps qs || among ps qss

-- all rising lists of numbers from a + 1 to a + k: without a + 1, then with it
unfoldable pub rising_lists : ℕ → ℕ → List (List ℕ)
rising_lists a zero = [] ∷ []
rising_lists a (suc k) = rising_lists (suc a) k ++ map (λ ps. suc a ∷ ps) (rising_lists (suc a) k)

-- all well-formed lists of a task of n blocks
abbrev pub all_lists : ℕ → List (List ℕ)
all_lists n = rising_lists 0 (n - 1)
