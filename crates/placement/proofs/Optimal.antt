-- From the rows of all edges to the whole: by induction on a list of points, the cost at an edge is at most that of each list that fits from there on, and
-- a list that the next edges lead through fits, has that cost and that tally, and is before every other of that cost. Assumes nothing.
use Rattle.std.proofs.Common.{◌≡◌, ℕ, ◌+◌, ◌-◌, ◌*◌, ◌%◌, ◌^◌, ◌<◌, ◌≤◌, Bool, true, ltb, List, [], ◌∷◌, get_or, sym, refl, ◌∙◌, ap₂, ⊎_elim, zero-le, lt_trans, le_refl, le_of_lt, arith, ltb-true, lt-ltb}
use mathlib.Core.Bool.{and-eq-true_iff}
use native.Mathlib.Nat.{add-mod-mod}
use Rattle.model.specs.Lists.{steps, regions, every, total, right_point, before, list_cost, FirstOfLeast, NoneFits}
use Rattle.model.proofs.Order.{three_ways, none_before, lower-before, rest-before}
use Rattle.placement.specs.Rows.{none, Rows, Leads}

-- points after edge a and below n that cut the blocks after a into regions that fit
data Way (fit : ℕ → ℕ → Bool) (n : ℕ) : ℕ → List ℕ → Type 0 where
  last : {a : ℕ} → a < n → fit a n ≡ true → Way fit n a []
  next : {a p : ℕ} {ps : List ℕ} → a < p → p < n → fit a p ≡ true → Way fit n p ps → Way fit n a (p ∷ ps)

module _ (fit : ℕ → ℕ → Bool) (n : ℕ) where
  to-way : (a : ℕ) (ps : List ℕ) → a < n → every (right_point n) (steps a ps) ≡ true → every fit (regions n a ps) ≡ true → Way fit n a ps
  unfolding every steps regions
  to-way a [] h right fits = last h ((and-eq-true_iff (fit a n) true).0 fits).0
  to-way a (p ∷ ps) h right fits =
      let r = (and-eq-true_iff (right_point n a p) (every (right_point n) (steps p ps))).0 right in
      let s = (and-eq-true_iff (ltb a p) (ltb p n)).0 r.0 in
      let f = (and-eq-true_iff (fit a p) (every fit (regions n p ps))).0 fits in
      let below = ltb-true p n s.1 in
      next (ltb-true a p s.0) below f.0 (to-way p ps below r.1 f.1)

module _ {fit : ℕ → ℕ → Bool} {n : ℕ} where
  way-right : {a : ℕ} {ps : List ℕ} → Way fit n a ps → every (right_point n) (steps a ps) ≡ true
  unfolding every steps
  way-right (last h f) = refl
  way-right (next {a = a} {p = p} lo hi f w) = rw (lt-ltb a p lo, lt-ltb p n hi) (way-right w)

  way-fits : {a : ℕ} {ps : List ℕ} → Way fit n a ps → every fit (regions n a ps) ≡ true
  unfolding every regions
  way-fits (last h f) = rw f
  way-fits (next lo hi f w) = rw f (way-fits w)

module _ {n : ℕ} {fit : ℕ → ℕ → Bool} {cost tally : ℕ → ℕ → ℕ} {costs nexts tallies : List ℕ} (rows : Rows fit cost tally n 0 costs nexts tallies) where
  lower-bound : {a : ℕ} {ps : List ℕ} → Way fit n a ps → get_or costs a 0 ≤ total cost (regions n a ps)
  unfolding total regions
  lower-bound (last {a = a} h f) = omega (arith, (rows.row a zero-le h).least n h (le_refl n) f, rows.end)
  lower-bound (next {a = a} {p = p} lo hi f w) = omega (arith, (rows.row a zero-le (lt_trans lo hi)).least p lo (le_of_lt hi) f, lower-bound w)

  bounded : {a : ℕ} {ps : List ℕ} → Way fit n a ps → total cost (regions n a ps) ≤ 2 ^ 56 * (n - a)
  unfolding total regions
  bounded (last {a = a} h f) = omega (arith, (rows.row a zero-le h).small n h (le_refl n) f)
  bounded (next {a = a} {p = p} lo hi f w) = omega (arith, (rows.row a zero-le (lt_trans lo hi)).small p lo (le_of_lt hi) f, bounded w)

  -- of an edge a with a cost, the next edge b
  record Onward (a b : ℕ) : Type 0 where
    above : a < b
    within : b ≤ n
    fits : fit a b ≡ true
    rest : get_or costs b 0 < none
    sum : get_or costs a 0 ≡ cost a b + get_or costs b 0
    tallied : get_or tallies a 0 ≡ (tally a b + get_or tallies b 0) % 2 ^ 64

  onward : (a b : ℕ) → a < n → get_or nexts a 0 ≡ b → get_or costs a 0 < none → Onward a b
  onward a b h e lt =
      let r = rows.row a zero-le h in
      let sum = rw e at (r.attained lt) in
      record {
        above = omega (arith, r.above);
        within = omega (arith, r.within);
        fits = rw e at (r.fits lt);
        rest = omega arith;
        sum = sum;
        tallied = rw e at (r.tallied lt);
      }

  record Cheapest (a : ℕ) (ps : List ℕ) : Type 0 where
    way : Way fit n a ps
    costs-it : get_or costs a 0 ≡ total cost (regions n a ps)
    tallies-it : get_or tallies a 0 ≡ total tally (regions n a ps) % 2 ^ 64

  cheapest : (a : ℕ) (ps : List ℕ) → a < n → Leads nexts n (get_or nexts a 0) ps → get_or costs a 0 < none → Cheapest a ps
  unfolding Leads total regions
  cheapest a [] h l lt =
      let o = onward a n h l lt in
      record { way = last h o.fits; costs-it = omega (arith, rows.end, o.sum); tallies-it = o.tallied ∙ rw rows.end-tally refl }
  cheapest a (p ∷ ps) h l lt =
      let o = onward a p h l.0 lt in
      let c = cheapest p ps l.1 l.2 o.rest in
      record {
        way = next o.above l.1 o.fits c.way;
        costs-it = omega (arith, o.sum, c.costs-it);
        tallies-it = o.tallied ∙ rw c.tallies-it (add-mod-mod (tally a p) (total tally (regions n p ps)) (2 ^ 64));
      }

  -- two lists of least cost from a: where they part, the next edge is the end, or lower than the other list's
  ahead : (a : ℕ) (ps qs : List ℕ) → a < n → Leads nexts n (get_or nexts a 0) ps → get_or costs a 0 < none → Way fit n a qs
      → total cost (regions n a qs) ≡ get_or costs a 0 → (ps ≡ qs → ⊥) → before ps qs ≡ true
  unfolding Leads total regions
  ahead a [] [] h l lt w e ne = absurd (ne refl)
  ahead a [] (q ∷ qs) h l lt w e ne = none_before q qs
  ahead a (p ∷ ps) [] h l lt (last _ f) e ne =
      let not_end = rw l.0 at (rows.row a zero-le h).not_end in
      absurd (omega (arith, not_end l.1 (le_refl n) f, rows.end))
  ahead a (p ∷ ps) (q ∷ qs) h l lt (next lo hi f w) e ne =
      let o = onward a p h l.0 lt in
      let lowest = rw l.0 at ((rows.row a zero-le h).lowest q lo) in
      ⊎_elim (λ lower. lower-before p q ps qs lower)
      (⊎_elim
      (λ same.
      rest-before p q ps qs same
      (ahead p ps qs l.1 l.2 o.rest (rw (← same) at w) (omega (arith, rw (← same) at e, o.sum)) (λ d. ne (ap₂ ◌∷◌ same d))))
      (λ higher. absurd (omega (arith, lowest higher l.1 f, lower-bound w))))
      (three_ways p q)

  module _ (positive : 0 < n) where
    pub optimal : (ps : List ℕ) → Leads nexts n (get_or nexts 0 0) ps → get_or costs 0 0 < none → FirstOfLeast n fit cost ps
    optimal ps l lt =
        let c = cheapest 0 ps positive l lt in
        record {
          least-cost = record {
            well-formed = way-right c.way;
            fits = way-fits c.way;
            least = λ qs right fits. rw (← c.costs-it) (lower-bound (to-way fit n 0 qs positive right fits));
          };
          first = λ qs right fits e ne. ahead 0 ps qs positive l lt (to-way fit n 0 qs positive right fits) (e ∙ sym c.costs-it) ne;
        }

    pub sum : (ps : List ℕ) → Leads nexts n (get_or nexts 0 0) ps → get_or costs 0 0 < none → get_or costs 0 0 ≡ list_cost cost n ps
    sum ps l lt = (cheapest 0 ps positive l lt).costs-it

    pub tally-sum : (ps : List ℕ) → Leads nexts n (get_or nexts 0 0) ps → get_or costs 0 0 < none → get_or tallies 0 0 ≡ total tally (regions n 0 ps) % 2 ^ 64
    tally-sum ps l lt = (cheapest 0 ps positive l lt).tallies-it

    pub refused : n ≤ 64 → get_or costs 0 0 ≡ none → NoneFits n fit
    refused most e qs right fits =
        let w = to-way fit n 0 qs positive right fits in
        omega (arith, lower-bound w, bounded w)
