-- Laws of regions and what lists of them cost.
-- Assumes nothing.
use Rattle.std.specs.Prelude.{None, Option, Some}
use Prim.Native.Nat.{ℕ, zero, suc, ◌+◌, ◌-◌, ◌*◌, ◌≤◌, ◌<◌, min}
use mathlib.Core.Path.{◌≡◌, refl, sym, ◌∙◌}
use mathlib.Core.Bool.{Bool, true, false, cond, not, ◌&&◌, ◌||◌, and-eq-true_iff, and-true, and-false, or-true, false≢true}
use mathlib.Core.List.{List, [], ◌∷◌}
use native.Mathlib.Nat.{le_refl, le_trans, add-zero, add-suc, mul-zero, mul-suc, mul-add, mul-le-mul}
use native.Mathlib.Decide.{dec_le}
use native.Mathlib.Omega.{arith}
use borrow.Author.Tests.{leb-true, le-leb, lt-leb, ltb-true, ne_eqb}
use lib.Dec.{eqb, leb, ltb}
use lib.ListN.{length}
use Rattle.model.specs.Sets.{Lines, bit}
use Rattle.model.specs.Task.{Task, block_count, second_limit}
use Rattle.model.specs.Lists.{steps, regions, every, total, right_point, well_formed, wrong_point}
use Rattle.model.specs.Lines.{useful, evicted, block_at}
use Rattle.model.specs.Regions.{union_after, time_after, loaded, region_lines, new_lines, switch_ticks, region_cost, region_length, armed_after, region_fits}
use Rattle.model.specs.Regions.{lines, fits, region_above}
use Rattle.model.specs.Answers.{accept, refused_at, pricing}
use Rattle.model.specs.Laws.{NoneArmed, OneArmed, AllArmed, CostOfLines, NoSwitch}
use Rattle.model.specs.declared.Refusal.TheVariants.{Argument, AboveLimit}
use Rattle.model.proofs.Digits.{count-le, count-within, count_none, count-sum}
use Rattle.model.proofs.Lists.{lowest-none, none-lowest}

-- a point is not edge 0
at-point : (t : Task) (p : ℕ) → 0 < p → switch_ticks t p ≡ t.header.switch
unfolding switch_ticks
at-point t p h = rw (ne_eqb p 0 (λ e. omega arith))

-- the cost of the regions from edge a on
cost-from : (t : Task) (n a : ℕ) (ps : List ℕ) → every (right_point n) (steps a ps) ≡ true
    → total (region_cost t) (regions n a ps) ≡ t.header.reload * total (region_lines t) (regions n a ps) + (switch_ticks t a + t.header.switch * length ps)
unfolding every steps total regions region_cost
cost-from t n a [] h = rw (add-zero, add-zero, mul-zero) (omega arith)
cost-from t n a (p ∷ ps) h =
    let both = (and-eq-true_iff (right_point n a p) _).0 h in
    let above = ltb-true a p ((and-eq-true_iff (ltb a p) (ltb p n)).0 both.0).0 in
    omega (
      arith,
      cost-from t n p ps both.1,
      at-point t p (omega arith),
      mul-add t.header.reload (region_lines t a p) (total (region_lines t) (regions n p ps)),
      mul-suc t.header.switch (length ps),
    )

pub cost-of-lines : CostOfLines
unfolding switch_ticks
cost-of-lines t ps h = omega (arith, cost-from t (block_count t) 0 ps h)

pub no_switch : NoSwitch
unfolding region_length region_cost switch_ticks
no_switch t e a b = go (eqb a 0)
  where
    go : (z : Bool)
        → (time_after t a (b - a) + (t.header.reload * region_lines t a b + cond z 0 t.header.switch) ≡ time_after t a (b - a) + t.header.reload * region_lines t a b) ×
        (t.header.reload * region_lines t a b + cond z 0 t.header.switch ≡ t.header.reload * region_lines t a b)
    go true = (omega arith, omega arith)
    go false = (omega arith, omega arith)

-- a region loads at most all lines
pub lines-region : (t : Task) (a b : ℕ) → region_lines t a b ≤ 512
unfolding region_lines
lines-region t a b = count-le 512 (loaded t a b)

-- the lines of the regions from edge a on
pub lines_from : (t : Task) (n a : ℕ) (ps : List ℕ) → total (region_lines t) (regions n a ps) ≤ (length ps + 1) * 512
unfolding total regions
lines_from t n a [] = omega (arith, lines-region t a n)
lines_from t n a (p ∷ ps) = omega (arith, lines-region t a p, lines_from t n p ps)

-- a list's lines are at most 512 for each of its regions
pub lines-most : (t : Task) (ps : List ℕ) → lines t ps ≤ (length ps + 1) * 512
lines-most t ps = lines_from t (block_count t) 0 ps

-- pricing accepts a well-formed list that fits
pub fits-accepted : (t : Task) (ps : List ℕ) → well_formed (block_count t) ps ≡ true → fits t ps ≡ true → pricing t ps ≡ accept
fits-accepted t ps w f =
    rw (lowest-none (right_point (block_count t)) 0 (steps 0 ps) w, lowest-none (region_fits t) 0 (regions (block_count t) 0 ps) f) refl

-- and no list that is not well formed
pub accepted-well-formed : (t : Task) (ps : List ℕ) → pricing t ps ≡ accept → well_formed (block_count t) ps ≡ true
accepted-well-formed t ps e = none-lowest (right_point (block_count t)) 0 (steps 0 ps) (go (wrong_point (block_count t) ps) e)
  where
    go : (p : Option ℕ) → refused_at p Argument (refused_at (region_above t ps) AboveLimit accept) ≡ accept → p ≡ None
    go None q = refl
    go (Some i) q = let z : ◌≡◌ {A = ℕ} 0 1 = cc in absurd (omega arith)

-- a region grows with its end: its times, its loaded lines, and so its length

time-grows : (t : Task) (a n k : ℕ) → time_after t a n ≤ time_after t a (n + k)
unfolding time_after
time-grows t a n zero = rw add-zero (le_refl _)
time-grows t a n (suc k) = rw add-suc (omega (arith, time-grows t a n k))

union-grows : (s : ℕ → Lines) (a n k c : ℕ) → union_after s a n c ≡ true → union_after s a (n + k) c ≡ true
unfolding union_after
union-grows s a n zero c h = rw add-zero h
union-grows s a n (suc k) c h = rw (add-suc, union-grows s a n k c h)

armed-grows : (t : Task) (a n k : ℕ) → armed_after t a n ≡ true → armed_after t a (n + k) ≡ true
unfolding armed_after
armed-grows t a n zero h = rw add-zero h
armed-grows t a n (suc k) h = rw (add-suc, armed-grows t a n k h)

-- a length that is within the limits leaves a smaller one within them, and no more of them count
within-shrinks : (armed more : Bool) (l m q r : ℕ) → l ≤ m → (armed ≡ true → more ≡ true)
    → (leb m q && (not more || leb m r)) ≡ true
    → (leb l q && (not armed || leb l r)) ≡ true
within-shrinks armed more l m q r h g e =
    let both = (and-eq-true_iff (leb m q) (not more || leb m r)).0 e in
    rw (le-leb l q (le_trans h (leb-true m q both.0))) (second armed more g both.1)
  where
    second : (armed more : Bool) → (armed ≡ true → more ≡ true) → (not more || leb m r) ≡ true → (not armed || leb l r) ≡ true
    second false more g k = refl
    second true false g k = absurd (false≢true (g refl))
    second true true g k = le-leb l r (le_trans h (leb-true m r k))

module _ (t : Task) (a b c : ℕ) (h : b ≤ c) where
  more : c - a ≡ b - a + (c - a - (b - a))
  more = omega arith

  loaded-grows : (d : ℕ) → loaded t a b d ≡ true → loaded t a c d ≡ true
  unfolding loaded
  loaded-grows d e =
      let both = (and-eq-true_iff (useful t a d && evicted t d) _).0 e in
      rw (both.0, more, union-grows _ a (b - a) (c - a - (b - a)) d both.1)

  length-grows : region_length t a b ≤ region_length t a c
  unfolding region_length region_cost region_lines
  length-grows =
      let time = rw (← more) at (time-grows t a (b - a) (c - a - (b - a))) in
      omega (arith, time, mul-le-mul (le_refl t.header.reload) (count-within 512 loaded-grows))

  -- where a region does not fit, no longer one from the same edge does
  pub longer-above : region_fits t a b ≡ false → region_fits t a c ≡ false
  unfolding region_fits
  longer-above e = go (region_fits t a c) refl
    where
      go : (x : Bool) → region_fits t a c ≡ x → region_fits t a c ≡ false
      go false k = k
      go true k =
          absurd
          (false≢true
          (sym e ∙
          within-shrinks (armed_after t a (b - a)) (armed_after t a (c - a)) (region_length t a b) (region_length t a c) t.header.limit (second_limit t) length-grows
          (λ x. rw more (armed-grows t a (b - a) (c - a - (b - a)) x)) k))

-- the fit where the sampler is armed nowhere, and where it is somewhere

unarmed : (t : Task) (a n : ℕ) → ((i : ℕ) → a ≤ i → i < a + n → (block_at t i).armed ≡ false) → armed_after t a n ≡ false
unfolding armed_after
unarmed t a zero h = refl
unarmed t a (suc n) h = rw (unarmed t a n (λ i l u. h i l (omega arith)), h (a + n) (omega arith) (omega arith)) refl

pub none-armed : NoneArmed
unfolding region_fits
none-armed t a b h = rw (unarmed t a (b - a) (λ i l u. h i l (omega arith)), and-true)

armed-in : (t : Task) (a n i : ℕ) → a ≤ i → i < a + n → (block_at t i).armed ≡ true → armed_after t a n ≡ true
unfolding armed_after
armed-in t a n i l u e =
    let here : a + (i - a) ≡ i = omega arith in
    let upto : suc (i - a) + (n - suc (i - a)) ≡ n = omega arith in
    rw upto at (armed-grows t a (suc (i - a)) (n - suc (i - a)) (rw (here, e) (or-true (armed_after t a (i - a)))))

pub within_both : (l q r : ℕ) → (leb l q && leb l r) ≡ leb l (min q r)
within_both l q r = go (dec_le l q) (dec_le l r)
  where
    go : Dec (l ≤ q) → Dec (l ≤ r) → (leb l q && leb l r) ≡ leb l (min q r)
    go (yes h) (yes k) = rw (le-leb l q h, le-leb l r k, le-leb l (min q r) (omega arith))
    go (yes h) (no k) = rw (le-leb l q h, lt-leb l r (omega arith), lt-leb l (min q r) (omega arith))
    go (no h) k = rw (lt-leb l q (omega arith), lt-leb l (min q r) (omega arith))

pub one-armed : OneArmed
unfolding region_fits
one-armed t a b i l u e =
    rw (armed-in t a (b - a) i l (omega arith) e) (within_both (region_length t a b) t.header.limit (second_limit t))

pub all-armed : AllArmed
all-armed t h a b l u = one-armed t a b a (omega arith) l (h a (omega arith))

-- a region's lines, block after block

bit-new : (s t : Bool) → (s ≡ true → t ≡ true) → bit s + bit (t && not s) ≡ bit t + bit false
bit-new true true h = refl
bit-new true false h = absurd (false≢true (h refl))
bit-new false true h = refl
bit-new false false h = refl

pub region-none : (t : Task) (a : ℕ) → region_lines t a a ≡ 0
unfolding region_lines loaded union_after
region-none t a =
    let none : a - a ≡ 0 = omega arith in
    count_none 512 (loaded t a a) (λ c _. rw none (and-false (useful t a c && evicted t c)))

pub region-longer : (t : Task) (a b : ℕ) → region_lines t a (suc b) ≡ region_lines t a b + new_lines t a (suc b)
unfolding region_lines new_lines
region-longer t a b =
    let before : suc b - 1 ≡ b = omega arith in
    let new : Lines = λ c. loaded t a (suc b) c && not (loaded t a b c) in
    rw before
    (omega (
      arith,
      count-sum 512 (loaded t a b) new (loaded t a (suc b)) (λ c. false)
          (λ c _. bit-new (loaded t a b c) (loaded t a (suc b) c) (loaded-grows t a b (suc b) (omega arith) c)),
      count_none 512 (λ c. false) (λ c _. refl),
    ))
