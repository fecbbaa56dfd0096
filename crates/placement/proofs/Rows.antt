-- The choices of all edges, from the last to the first: a row looks only at later edges, so it stays as an earlier edge gets its own. Assumes nothing.
use Rattle.std.proofs.Common.{◌≡◌, ℕ, ◌+◌, ◌<◌, ◌≤◌, Bool, false, List, length, get_or, set, replicate, sym, refl, ◌∙◌, ⊎_elim, zero-le, le_refl, lt_of_le_of_lt, eq-or-lt_of_le, arith, length-set, get_or-set_other, get_or-set_same}
use mathlib.Core.Bool.{false≢true}
use mathlib.Core.Logic.{by_cases}
use native.Mathlib.Decide.{dec_lt}
use lib.ListN.{get_or-replicate}
use Rattle.placement.specs.Rows.{none, Tried, Rows, Rising}
use Rattle.placement.specs.declared.Choice.{Choice}

module _ {fit : ℕ → ℕ → Bool} {cost tally : ℕ → ℕ → ℕ} where
  -- before an edge is tried
  pub tried-none : {costs tallies : List ℕ} {n a : ℕ} → a < n → Tried fit cost tally costs tallies n a a (record { cost = none; next = n; tally = 0 })
  tried-none h =
      record {
        above = h;
        within = le_refl _;
        most = le_refl _;
        small = λ k lo hi. absurd (omega arith);
        fits = λ lt. absurd (omega arith);
        attained = λ lt. absurd (omega arith);
        tallied = λ lt. absurd (omega arith);
        least = λ k lo hi. absurd (omega arith);
        not_end = λ lt. absurd (omega arith);
        lowest = λ k lo hi lt. absurd (omega arith);
      }

  -- where the regions to edges above b do not fit, all are tried
  pub tried-all : {costs tallies : List ℕ} {n a b : ℕ} {c : Choice} → ((k : ℕ) → b < k → k ≤ n → fit a k ≡ false)
      → Tried fit cost tally costs tallies n a b c → Tried fit cost tally costs tallies n a n c
  tried-all {b = b} above t =
      record {
        above = t.above;
        within = t.within;
        most = t.most;
        small = λ k lo hi f. by_cases (dec_lt b k) (λ gt. absurd (false≢true (sym (above k gt hi) ∙ f))) (λ le. t.small k lo (omega arith) f);
        fits = t.fits;
        attained = t.attained;
        tallied = t.tallied;
        least = λ k lo hi f. by_cases (dec_lt b k) (λ gt. absurd (false≢true (sym (above k gt hi) ∙ f))) (λ le. t.least k lo (omega arith) f);
        not_end = λ lt le f. by_cases (dec_lt b _) (λ gt. absurd (false≢true (sym (above _ gt (le_refl _)) ∙ f))) (λ le. t.not_end lt (omega arith) f);
        lowest = t.lowest;
      }

later : (a v : ℕ) (l : List ℕ) (b : ℕ) → a < b → get_or (set l a v) b 0 ≡ get_or l b 0
later a v l b h = get_or-set_other l a b v 0 (omega arith)

module _ {fit : ℕ → ℕ → Bool} {cost tally : ℕ → ℕ → ℕ} {costs tallies : List ℕ} {n : ℕ} where
  -- an edge up to k gets its cost and tally
  stays : (a v w : ℕ) {k : ℕ} {c : Choice} → a ≤ k → Tried fit cost tally costs tallies n k n c
      → Tried fit cost tally (set costs a v) (set tallies a w) n k n c
  stays a v w {k} {c} h t =
      let below : a < n = omega (arith, t.above, t.within) in
      let next : a < c.next = omega (arith, t.above) in
      record {
        above = t.above;
        within = t.within;
        most = t.most;
        small = t.small;
        fits = t.fits;
        attained = λ lt. rw (later a v costs c.next next) (t.attained lt);
        tallied = λ lt. rw (later a w tallies c.next next) (t.tallied lt);
        least = λ j lo hi f. rw (later a v costs j (lt_of_le_of_lt h lo)) (t.least j lo hi f);
        not_end = λ lt le f. rw (later a v costs n below) (t.not_end lt le f);
        lowest = λ j lo hi lt f. rw (later a v costs j (lt_of_le_of_lt h lo)) (t.lowest j lo hi lt f);
      }

-- arrays of 65 that hold the choices of the edges from a on
pub record Chosen (fit : ℕ → ℕ → Bool) (cost tally : ℕ → ℕ → ℕ) (n a : ℕ) (costs nexts tallies : List ℕ) : Type 0 where
  pub edge : a ≤ n
  pub costs-long : length costs ≡ 65
  pub nexts-long : length nexts ≡ 65
  pub tallies-long : length tallies ≡ 65
  pub rows : Rows fit cost tally n a costs nexts tallies

module _ {fit : ℕ → ℕ → Bool} {cost tally : ℕ → ℕ → ℕ} {n : ℕ} where
  pub chosen_none : n ≤ 64 → Chosen fit cost tally n n (replicate 65 0) (replicate 65 0) (replicate 65 0)
  chosen_none h =
      record {
        edge = le_refl n;
        costs-long = refl;
        nexts-long = refl;
        tallies-long = refl;
        rows =
            record {
              end = get_or-replicate 65 n 0 0 (omega arith);
              end-tally = get_or-replicate 65 n 0 0 (omega arith);
              row = λ k lo hi. absurd (omega arith);
            };
      }

  pub chosen_more : {costs nexts tallies : List ℕ} {a : ℕ} (k : ℕ) (c : Choice) → n ≤ 64 → a ≤ k + 1 → k < n → Chosen fit cost tally n a costs nexts tallies
      → Tried fit cost tally costs tallies n k n c → Chosen fit cost tally n k (set costs k c.cost) (set nexts k c.next) (set tallies k c.tally)
  chosen_more {costs} {nexts} {tallies} k c most below h chosen t =
      let costs-within : k < length costs = omega (arith, chosen.costs-long) in
      let nexts-within : k < length nexts = omega (arith, chosen.nexts-long) in
      let tallies-within : k < length tallies = omega (arith, chosen.tallies-long) in
      record {
        edge = omega arith;
        costs-long = length-set costs k c.cost ∙ chosen.costs-long;
        nexts-long = length-set nexts k c.next ∙ chosen.nexts-long;
        tallies-long = length-set tallies k c.tally ∙ chosen.tallies-long;
        rows =
            record {
              end = later k c.cost costs n h ∙ chosen.rows.end;
              end-tally = later k c.tally tallies n h ∙ chosen.rows.end-tally;
              row =
                  λ j lo hi.
                  ⊎_elim
                  (λ (e : k ≡ j).
                  rw (← e, get_or-set_same costs k c.cost 0 costs-within, get_or-set_same nexts k c.next 0 nexts-within, get_or-set_same tallies k c.tally 0 tallies-within)
                  (stays k c.cost c.tally (le_refl k) t))
                  (λ (lt : k < j).
                  rw (later k c.cost costs j lt, later k c.next nexts j lt, later k c.tally tallies j lt)
                  (stays k c.cost c.tally lo (chosen.rows.row j (omega arith) hi)))
                  (eq-or-lt_of_le lo);
            };
      }

  pub rows-rise : {costs nexts tallies : List ℕ} → Rows fit cost tally n 0 costs nexts tallies → Rising nexts n
  rows-rise rows = record { above = λ k h. (rows.row k zero-le h).above; within = λ k h. (rows.row k zero-le h).within }
