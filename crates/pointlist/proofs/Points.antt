-- The points of a list, one at a time.
-- Assumes nothing.
use Rattle.std.specs.Prelude.{None, Option, Some}
use Prim.Native.Nat.{ℕ, zero, suc, ◌+◌, ◌≤◌, ◌<◌}
use mathlib.Core.Path.{◌≡◌, refl, ◌∙◌}
use mathlib.Core.Bool.{Bool, true, false, cond, and-false, and-eq-true_iff}
use mathlib.Core.List.{List, ◌∷◌}
use mathlib.Core.Logic.{◌⊎◌, ⊎_elim, by_cases}
use native.Mathlib.Decide.{dec_lt}
use native.Mathlib.Numerals.{add-one}
use native.Mathlib.Omega.{arith}
use borrow.Author.Tests.{lt-ltb, le-ltb, ltb-true}
use lib.Dec.{ltb}
use lib.ListN.{length, get_or, drop, drop_of_length-le, get_or-eq_default}
use lib.Seq.{drop-cons}
use Rattle.model.specs.Lists.{steps, lowest, right_point, wrong_point}

-- the lowest wrong point of the list from index i on, where last is the point before
abbrev pub wrong_from : ℕ → List ℕ → ℕ → ℕ → Option ℕ
wrong_from n ps i last = lowest (right_point n) i (steps last (drop i ps))

module _ (n : ℕ) (ps : List ℕ) (i last d : ℕ) (h : i < length ps) where
  next : wrong_from n ps i last ≡ cond (right_point n last (get_or ps i d)) (wrong_from n ps (i + 1) (get_or ps i d)) (Some i)
  unfolding lowest steps
  next = rw (add-one, drop-cons ps i d h)

  pub point-wrong : (get_or ps i d ≤ last) ⊎ (n ≤ get_or ps i d) → wrong_from n ps i last ≡ Some i
  point-wrong w =
      next ∙
      ⊎_elim (λ l. rw (le-ltb last (get_or ps i d) l) refl) (λ l. rw (le-ltb (get_or ps i d) n l, and-false) refl) w

  pub point-right : last < get_or ps i d → get_or ps i d < n → wrong_from n ps i last ≡ wrong_from n ps (i + 1) (get_or ps i d)
  point-right l m = next ∙ rw (lt-ltb last (get_or ps i d) l, lt-ltb (get_or ps i d) n m) refl

  -- where no point is wrong, this one is right and no later one is wrong
  pub point-rising : wrong_from n ps i last ≡ None
      → (last < get_or ps i d) × (get_or ps i d < n) × (wrong_from n ps (i + 1) (get_or ps i d) ≡ None)
  point-rising e = go (right_point n last (get_or ps i d)) refl (rw next at e)
    where
      go : (b : Bool) → right_point n last (get_or ps i d) ≡ b → cond b (wrong_from n ps (i + 1) (get_or ps i d)) (Some i) ≡ None
          → (last < get_or ps i d) × (get_or ps i d < n) × (wrong_from n ps (i + 1) (get_or ps i d) ≡ None)
      go true r q =
          let both = (and-eq-true_iff (ltb last (get_or ps i d)) (ltb (get_or ps i d) n)).0 r in
          (ltb-true _ _ both.0, ltb-true _ _ both.1, q)
      go false r q = let z : ◌≡◌ {A = ℕ} 0 1 = cc in absurd (omega arith)

pub points-end : (n : ℕ) (ps : List ℕ) (i last : ℕ) → length ps ≤ i → wrong_from n ps i last ≡ None
unfolding lowest steps
points-end n ps i last h = rw (drop_of_length-le ps h) refl

-- the regions of a list with no wrong point: region i starts at the point before it, or at 0, and ends at its own point, or at n
module _ (n : ℕ) (ps : List ℕ) (least : 0 < n) (w : wrong_point n ps ≡ None) where
  from_start : (i : ℕ) → i ≤ length ps → (i ≤ get_or (0 ∷ ps) i n) × (get_or (0 ∷ ps) i n < n) × (wrong_from n ps i (get_or (0 ∷ ps) i n) ≡ None)
  from_start zero l = (omega arith, least, w)
  from_start (suc i) l =
      let before = from_start i (omega arith) in
      let here = point-rising n ps i (get_or (0 ∷ ps) i n) n l before.2 in
      (omega (arith, before.0, here.0), here.1, rw add-one at here.2)

  -- there are as many edges before it as regions, at least, and it is not empty
  pub region-edges : (i : ℕ) → i ≤ length ps → (i ≤ get_or (0 ∷ ps) i n) × (get_or (0 ∷ ps) i n < get_or ps i n) × (get_or ps i n ≤ n)
  region-edges i l =
      let start = from_start i l in
      by_cases (dec_lt i (length ps))
      (λ lt. let p = point-rising n ps i (get_or (0 ∷ ps) i n) n lt start.2 in (start.0, p.0, omega (arith, p.1)))
      (λ ge. let end = get_or-eq_default ps n {n = i} (omega arith) in (start.0, omega (arith, start.1, end), omega (arith, end)))
