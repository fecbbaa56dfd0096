-- A walk along the bits of a number: the regions so far and the remaining points make the whole
-- list. Fits and sums that agree on regions agree on lists. Assumes nothing.
use Rattle.std.specs.Prelude.{None, Some}
use Prim.Native.Nat.{ℕ, suc, ◌+◌, ◌-◌, ◌*◌, ◌/◌, ◌%◌, ◌^◌, ◌≤◌, ◌<◌}
use mathlib.Core.Path.{◌≡◌, refl, sym, ap, ap₂, ◌∙◌, fun_ext}
use mathlib.Core.Bool.{Bool, true, false, not, ◌&&◌, and_assoc, and-true, and-eq-true_iff}
use mathlib.Core.List.{List, [], ◌∷◌}
use native.Mathlib.Nat.{le_refl, add_assoc, add-zero, zero-add}
use native.Mathlib.Omega.{arith}
use lib.Dec.{ltb}
use borrow.Author.Tests.{eq-eqb, ne_eqb, ltb-true}
use Rattle.model.specs.Task.{Task, block_count}
use Rattle.model.specs.Lists.{steps, regions, every, total, right_point, lowest_from, list_fits, list_cost}
use Rattle.model.specs.Regions.{region_lines, region_fits, region_cost}
use Rattle.enumerating.specs.Numbers.{points_after, list_of}
use Rattle.enumerating.specs.Search.{next_number, entry_of, found_at, next_found, next_in, if_fitting}
use Rattle.enumerating.specs.Table.{fit_in, lines_in, cost_in, RegionTable}
use Rattle.enumerating.specs.declared.Table.{Table}
use Rattle.enumerating.proofs.Numbers.{list_right}
use Rattle.enumerating.proofs.Filling.{held}

-- the points from edge to on, where the bits before it are passed
abbrev pub left : ℕ → ℕ → ℕ → List ℕ
left n to rest = points_after (to - 1) (n - to) rest

module _ (n to rest : ℕ) (positive : 0 < to) where
  edge : suc (to - 1) ≡ to
  edge = omega arith

  after : to + 1 - 1 ≡ to
  after = omega arith

  pub point-left : to < n → rest % 2 ≡ 1 → left n to rest ≡ to ∷ left n (to + 1) (rest / 2)
  unfolding points_after
  point-left h e = let more : n - to ≡ suc (n - (to + 1)) = omega arith in rw (more, eq-eqb (rest % 2) 1 e, edge, after)

  pub none_left : to < n → (rest % 2 ≡ 1 → ⊥) → left n to rest ≡ left n (to + 1) (rest / 2)
  unfolding points_after
  none_left h e = let more : n - to ≡ suc (n - (to + 1)) = omega arith in rw (more, ne_eqb (rest % 2) 1 e, edge, after)

  pub end-left : n ≡ to → left n to rest ≡ []
  unfolding points_after
  end-left e = let none : n - to ≡ 0 = omega arith in rw none refl

-- the regions of the list of number m up to edge from, with this fit and these sums, and the points from edge to on
pub record Walked (fit : ℕ → ℕ → Bool) (lines costs : ℕ → ℕ → ℕ) (n m : ℕ) (so_far : Bool) (from line cost to rest : ℕ) : Type 0 where
  pub edge : from < to
  pub fits : list_fits fit n (list_of n m) ≡ (so_far && every fit (regions n from (left n to rest)))
  pub line-sum : list_cost lines n (list_of n m) ≡ line + total lines (regions n from (left n to rest))
  pub cost-sum : list_cost costs n (list_of n m) ≡ cost + total costs (regions n from (left n to rest))
  pub few : line ≤ 512 * from
  pub small : cost ≤ 2 ^ 48 * from

module _ (fit : ℕ → ℕ → Bool) (lines costs : ℕ → ℕ → ℕ) (n m : ℕ) where
  pub walked_start : Walked fit lines costs n m true 0 0 0 1 m
  walked_start =
      record { edge = omega arith; fits = refl; line-sum = sym (zero-add _); cost-sum = sym (zero-add _); few = omega arith; small = omega arith }

  -- with other names for the same numbers
  pub walked-is : {x y : Bool} {from from' line line' cost cost' to rest : ℕ} → y ≡ x → from' ≡ from → line' ≡ line → cost' ≡ cost
      → Walked fit lines costs n m x from line cost to rest → Walked fit lines costs n m y from' line' cost' to rest
  walked-is p q r s w = rw (p, q, r, s) w

  module _ {so_far : Bool} {from line cost to rest : ℕ} (w : Walked fit lines costs n m so_far from line cost to rest) where
    positive : 0 < to
    positive = omega (arith, w.edge)

    -- at a point a region ends
    pub walked-point : to < n → rest % 2 ≡ 1 → lines from to ≤ 512 → costs from to < 2 ^ 48
        → Walked fit lines costs n m (so_far && fit from to) to (line + lines from to) (cost + costs from to) (to + 1) (rest / 2)
    unfolding regions every total
    walked-point h e l c =
        let point = point-left n to rest positive h e in
        record {
          edge = omega arith;
          fits = w.fits ∙ rw point (sym (and_assoc so_far (fit from to) _));
          line-sum = w.line-sum ∙ rw point (sym (add_assoc line (lines from to) _));
          cost-sum = w.cost-sum ∙ rw point (sym (add_assoc cost (costs from to) _));
          few = omega (arith, w.edge, w.few);
          small = omega (arith, w.edge, w.small);
        }

    pub walked_none : to < n → (rest % 2 ≡ 1 → ⊥) → Walked fit lines costs n m so_far from line cost (to + 1) (rest / 2)
    walked_none h e =
        let none = none_left n to rest positive h e in
        record {
          edge = omega (arith, w.edge);
          fits = w.fits ∙ rw none;
          line-sum = w.line-sum ∙ rw none;
          cost-sum = w.cost-sum ∙ rw none;
          few = w.few;
          small = w.small;
        }

    -- the last region ends at the end
    pub walked_end : n ≡ to → (list_fits fit n (list_of n m) ≡ (so_far && fit from n)) × (list_cost lines n (list_of n m) ≡ line + lines from n) ×
        (list_cost costs n (list_of n m) ≡ cost + costs from n)
    unfolding regions every total
    walked_end e =
        let end = end-left n to rest positive e in (
          w.fits ∙ rw (end, and-true),
          w.line-sum ∙ rw (end, add-zero),
          w.cost-sum ∙ rw (end, add-zero),
        )

  -- what is found of a list that fits, and of one that does not
  module _ {whole : Bool} (fits : list_fits fit n (list_of n m) ≡ whole) where
    pub if-fits : {line cost : ℕ} → list_cost lines n (list_of n m) ≡ line → list_cost costs n (list_of n m) ≡ cost → whole ≡ true
        → Some (record { number = m; lines = line; cost = cost }) ≡ if_fitting fit lines costs n m
    unfolding entry_of
    if-fits l c e = rw (fits ∙ e, l, c) refl

    pub if-above : whole ≡ false → None ≡ if_fitting fit lines costs n m
    if-above e = rw (fits ∙ e) refl

-- fits and sums that agree on the regions of a well-formed list

same-every : (f g : ℕ → ℕ → Bool) (n a : ℕ) (ps : List ℕ) → ((a b : ℕ) → a < b → b ≤ n → f a b ≡ g a b) → a < n
    → every (right_point n) (steps a ps) ≡ true → every f (regions n a ps) ≡ every g (regions n a ps)
unfolding regions every steps
same-every f g n a [] same h w = rw (same a n h (le_refl n))
same-every f g n a (p ∷ ps) same h w =
    let both = (and-eq-true_iff (right_point n a p) (every (right_point n) (steps p ps))).0 w in
    let right = (and-eq-true_iff (ltb a p) (ltb p n)).0 both.0 in
    ap₂ ◌&&◌ (same a p (ltb-true a p right.0) (omega (arith, ltb-true p n right.1)))
    (same-every f g n p ps same (ltb-true p n right.1) both.1)

same_total : (f g : ℕ → ℕ → ℕ) (n a : ℕ) (ps : List ℕ) → ((a b : ℕ) → a < b → b ≤ n → f a b ≡ g a b) → a < n
    → every (right_point n) (steps a ps) ≡ true → total f (regions n a ps) ≡ total g (regions n a ps)
unfolding regions every steps total
same_total f g n a [] same h w = rw (same a n h (le_refl n))
same_total f g n a (p ∷ ps) same h w =
    let both = (and-eq-true_iff (right_point n a p) (every (right_point n) (steps p ps))).0 w in
    let right = (and-eq-true_iff (ltb a p) (ltb p n)).0 both.0 in
    ap₂ ◌+◌ (same a p (ltb-true a p right.0) (omega (arith, ltb-true p n right.1)))
    (same_total f g n p ps same (ltb-true p n right.1) both.1)

-- so the table leads to what the task's own fits and sums lead to
pub same_next : (t : Task) (table : Table) (start : ℕ) → 0 < block_count t → block_count t ≤ 16 → RegionTable t table
    → next_found (fit_in table) (lines_in table) (cost_in table) (block_count t) start ≡ next_in t start
unfolding next_number entry_of
same_next t table start positive few w =
    let n = block_count t in
    ap₂ found_at
    (fun_ext (λ m. λ i. record { number = m; lines = sums (lines_in table) (region_lines t) line m i; cost = sums (cost_in table) (region_cost t) cost m i }))
    (ap (λ (f : ℕ → Bool). lowest_from f start (2 ^ (n - 1) - start)) (fun_ext (λ m. ap not (same-every (fit_in table) (region_fits t) n 0 (list_of n m) fit positive (list_right n m positive)))))
  where
    fit : (a b : ℕ) → a < b → b ≤ block_count t → fit_in table a b ≡ region_fits t a b
    fit = held false (region_fits t) (block_count t) few table.fits w.fit

    line : (a b : ℕ) → a < b → b ≤ block_count t → lines_in table a b ≡ region_lines t a b
    line = held 0 (region_lines t) (block_count t) few table.lines w.line

    cost : (a b : ℕ) → a < b → b ≤ block_count t → cost_in table a b ≡ region_cost t a b
    cost = held 0 (region_cost t) (block_count t) few table.costs w.cost

    sums : (f g : ℕ → ℕ → ℕ) → ((a b : ℕ) → a < b → b ≤ block_count t → f a b ≡ g a b) → (m : ℕ)
        → list_cost f (block_count t) (list_of (block_count t) m) ≡ list_cost g (block_count t) (list_of (block_count t) m)
    sums f g same m = same_total f g (block_count t) 0 (list_of (block_count t) m) same positive (list_right (block_count t) m positive)
