-- The table of regions, filled region by region. A region's entry stands at its
-- place, a store leaves the others as they were, and between two rows there is no region. Assumes
-- nothing.
use Prim.Native.Nat.{ℕ, zero, suc, ◌+◌, ◌*◌, ◌/◌, ◌%◌, ◌^◌, ◌≤◌, ◌<◌}
use mathlib.Core.Path.{◌≡◌, refl, sym, ap, ◌∙◌}
use mathlib.Core.Bool.{Bool, true, false, cond, ◌&&◌, and-eq-true_iff}
use mathlib.Core.Logic.{by_cases}
use mathlib.Core.List.{List}
use native.Mathlib.Omega.{arith}
use native.Mathlib.Decide.{ℕ_discrete, dec_le}
use lib.Dec.{ltb, leb}
use lib.ListN.{length, get_or, set, replicate, length-set}
use lib.Seq.{get_or-set_same, get_or-set_other}
use borrow.Author.Tests.{lt-ltb, le-ltb, le-leb, ltb-true, leb-true}
use Rattle.model.specs.Task.{Task, block_count}
use Rattle.model.specs.Regions.{region_lines, region_fits, region_cost}
use Rattle.enumerating.specs.Table.{entry_at, Holds, TableBefore}
use Rattle.enumerating.specs.declared.Table.{Table}

module _ {A : Type 0} (z : A) (f : ℕ → ℕ → A) (n : ℕ) (few : n ≤ 16) where
  -- the place of a region has its entry
  at-region : (a b : ℕ) → a < b → b ≤ n → entry_at z f n (17 * a + b) ≡ f a b
  unfolding entry_at
  at-region a b h l =
      let row : (17 * a + b) / 17 ≡ a = omega arith in
      let column : (17 * a + b) % 17 ≡ b = omega arith in
      rw (row, column, lt-ltb a b h, le-leb b n l)

  -- a place of no region has zero
  at_none : (i : ℕ) → ((a b : ℕ) → a < b → b ≤ n → 17 * a + b ≡ i → ⊥) → entry_at z f n i ≡ z
  unfolding entry_at
  at_none i none = go (ltb (i / 17) (i % 17) && leb (i % 17) n) refl
    where
      go : (b : Bool) → (ltb (i / 17) (i % 17) && leb (i % 17) n) ≡ b → cond b (f (i / 17) (i % 17)) z ≡ z
      go true e =
          let both = (and-eq-true_iff (ltb (i / 17) (i % 17)) (leb (i % 17) n)).0 e in
          absurd (none (i / 17) (i % 17) (ltb-true _ _ both.0) (leb-true _ _ both.1) (omega arith))
      go false e = refl

  module _ (l : List A) where
    -- a full array has each region's entry
    pub held : Holds 272 z f n l → (a b : ℕ) → a < b → b ≤ n → get_or l (17 * a + b) z ≡ f a b
    held h a b below within =
        h.1 (17 * a + b) ∙ ap (λ (t : Bool). cond t (entry_at z f n (17 * a + b)) z) (lt-ltb (17 * a + b) 272 (omega arith)) ∙ at-region a b below within

    -- between two places with no region the array holds as much
    held_same : (j k : ℕ) → j ≤ k → ((a b : ℕ) → a < b → b ≤ n → 17 * a + b < k → 17 * a + b < j) → Holds j z f n l → Holds k z f n l
    held_same j k up none h = (h.0, λ i. h.1 i ∙ go i)
      where
        go : (i : ℕ) → cond (ltb i j) (entry_at z f n i) z ≡ cond (ltb i k) (entry_at z f n i) z
        go i =
            by_cases (dec_le j i)
            (λ p. rw (le-ltb i j p)
            (by_cases (dec_le k i) (λ q. rw (le-ltb i k q))
            (λ q. rw (lt-ltb i k (omega arith)) (sym (at_none i (λ a b x y e. absurd (let before = none a b x y (omega arith) in omega arith)))))))
            (λ p. rw (lt-ltb i j (omega arith), lt-ltb i k (omega arith)))

    -- a region's entry is stored at its place
    held_more : (a b : ℕ) → a < b → b ≤ n → (v : A) → v ≡ f a b → Holds (17 * a + b) z f n l → Holds (suc (17 * a + b)) z f n (set l (17 * a + b) v)
    held_more a b below within v e h = (
      length-set l _ _ ∙ h.0,
      λ i. by_cases (ℕ_discrete i (17 * a + b)) here (other i),
    )
      where
        here : {i : ℕ} → i ≡ 17 * a + b → get_or (set l (17 * a + b) v) i z ≡ cond (ltb i (suc (17 * a + b))) (entry_at z f n i) z
        here q = rw (q, get_or-set_same l (17 * a + b) v z (omega (arith, h.0)), lt-ltb (17 * a + b) (suc (17 * a + b)) (omega arith), at-region a b below within) e

        other : (i : ℕ) → (i ≡ 17 * a + b → ⊥) → get_or (set l (17 * a + b) v) i z ≡ cond (ltb i (suc (17 * a + b))) (entry_at z f n i) z
        other i q =
            get_or-set_other l (17 * a + b) i v z q ∙ h.1 i ∙
            by_cases (dec_le (17 * a + b) i) (λ o. rw (le-ltb i (17 * a + b) o, le-ltb i (suc (17 * a + b)) (omega arith)))
            (λ o. rw (lt-ltb i (17 * a + b) (omega arith), lt-ltb i (suc (17 * a + b)) (omega arith)))

-- an entry of a list, after one is set, is one of the list or the one that is set
each_more : (P : ℕ → Type 0) (l : List ℕ) (i v : ℕ) → i < length l → P v → ((j : ℕ) → P (get_or l j 0)) → (j : ℕ) → P (get_or (set l i v) j 0)
each_more P l i v h p q j =
    by_cases (ℕ_discrete j i) (λ e. rw (e, get_or-set_same l i v 0 h) p) (λ e. rw (get_or-set_other l i j v 0 e) (q j))

module _ {t : Task} {table : Table} (few : block_count t ≤ 16) where
  -- between two places with no region the table holds as much
  pub table_same : {j k : ℕ} → j ≤ k → ((a b : ℕ) → a < b → b ≤ block_count t → 17 * a + b < k → 17 * a + b < j)
      → TableBefore j t table → TableBefore k t table
  table_same {j} {k} up none w =
      record {
        fit = held_same false (region_fits t) (block_count t) few table.fits j k up none w.fit;
        line = held_same 0 (region_lines t) (block_count t) few table.lines j k up none w.line;
        cost = held_same 0 (region_cost t) (block_count t) few table.costs j k up none w.cost;
        widths = w.widths;
      }

  -- a region's fit, lines and cost are stored at its place
  pub table_more : (a b : ℕ) → a < b → b ≤ block_count t → (f : Bool) (l c : ℕ)
      → f ≡ region_fits t a b → l ≡ region_lines t a b → c ≡ region_cost t a b → l ≤ 512 → c < 2 ^ 48
      → TableBefore (17 * a + b) t table
      → TableBefore (suc (17 * a + b)) t
      (record { fits = set table.fits (17 * a + b) f; lines = set table.lines (17 * a + b) l; costs = set table.costs (17 * a + b) c })
  table_more a b below within f l c ef el ec small-l small-c w =
      record {
        fit = held_more false (region_fits t) (block_count t) few table.fits a b below within f ef w.fit;
        line = held_more 0 (region_lines t) (block_count t) few table.lines a b below within l el w.line;
        cost = held_more 0 (region_cost t) (block_count t) few table.costs a b below within c ec w.cost;
        widths =
            record {
              few = each_more (λ n. n ≤ 512) table.lines (17 * a + b) l (omega (arith, w.line.0)) small-l w.widths.few;
              small = each_more (λ n. n < 2 ^ 48) table.costs (17 * a + b) c (omega (arith, w.cost.0)) small-c w.widths.small;
            };
      }

zeros : {A : Type 0} (n : ℕ) (z : A) (i : ℕ) → get_or (replicate n z) i z ≡ z
zeros zero z i = refl
zeros (suc n) z zero = refl
zeros (suc n) z (suc i) = zeros n z i

-- at the start it holds nothing
pub table_none : (t : Task) → TableBefore 0 t (record { fits = replicate 272 false; lines = replicate 272 0; costs = replicate 272 0 })
table_none t =
    record {
      fit = none false _ _;
      line = none 0 _ _;
      cost = none 0 _ _;
      widths = record { few = λ i. rw (zeros {A = ℕ} 272 0 i) (omega arith); small = λ i. rw (zeros {A = ℕ} 272 0 i) (omega arith) };
    }
  where
    none : {A : Type 0} (z : A) (f : ℕ → ℕ → A) (n : ℕ) → Holds 0 z f n (replicate 272 z)
    none z f n = (refl, λ i. zeros 272 z i ∙ sym (rw (le-ltb i 0 (omega arith))))
