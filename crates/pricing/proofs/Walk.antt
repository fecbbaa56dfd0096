-- The walk that counts a list's lines: what it knows of the lines, at its start, after the next
-- read and in a new region; and what is counted as it passes the edges, of the regions before and
-- of the one that it is in. Assumes nothing.
use Rattle.std.specs.Prelude.{None}
use Prim.Native.Nat.{ℕ, suc, ◌+◌, ◌≤◌, ◌<◌}
use mathlib.Core.Path.{◌≡◌, refl, sym, ◌∙◌}
use mathlib.Core.Bool.{Bool, true, false, cond, ◌&&◌}
use mathlib.Core.List.{List}
use mathlib.Core.Logic.{⊎_elim, by_cases}
use native.Mathlib.Decide.{ℕ_discrete, dec_lt}
use native.Mathlib.Nat.{eq-or-lt_of_le}
use native.Mathlib.Numerals.{add-one}
use native.Mathlib.Omega.{arith}
use borrow.Author.Count.{below_more}
use lib.Dec.{eqb, leb, ltb}
use lib.ListN.{length, get_or, set, replicate, length-set, get_or-replicate, get_or-eq_default}
use lib.Seq.{get_or-set_same, get_or-set_other}
use borrow.Author.Tests.{eq-eqb, ne_eqb, le-leb, lt-leb, lt-ltb, le-ltb}
use Rattle.model.specs.Sets.{Lines, bit}
use Rattle.model.specs.Task.{Task, block_count}
use Rattle.model.specs.Lines.{same_block, reads_of, block_at, evicted}
use Rattle.model.specs.Lists.{wrong_point}
use Rattle.model.specs.Regions.{region_lines}
use Rattle.model.specs.declared.Line.{Line}
use Rattle.model.specs.declared.Line.TheVariants.{Empty, Held}
use Rattle.model.proofs.Histories.{LiesOn, History, history-none, history-more}
use Rattle.model.proofs.Loads.{loaded_by, loaded-none, loaded-all, loaded-more}
use Rattle.model.proofs.ReadOrder.{edge}
use Rattle.pointlist.proofs.Points.{region-edges}
use Rattle.pricing.specs.Prices.{Loads, RestStays}
use Rattle.pricing.proofs.Pricing.{start_of}

-- after p reads, up to block k, in region r, which starts at edge a: what each line holds, and its last read, which lies before the region's start
-- if an earlier region read it
pub record Known (t : Task) (p k r a : ℕ) (held : List Line) (since : List ℕ) : Type 0 where
  pub last : ℕ → ℕ
  pub history : History t p (λ c. get_or held c Empty) last
  pub recent : (c : ℕ) → c < 512 → last c ≤ k
  pub long-held : length held ≡ 512
  pub long : length since ≡ 512
  pub passed : (c : ℕ) → c < 512 → get_or since c 0 ≤ suc r
  pub earlier : (c : ℕ) → c < 512 → leb (last c) a ≡ ltb (get_or since c 0) (suc r)

pub known-none : (t : Task) → Known t (edge t 0) 0 0 0 (replicate 512 Empty) (replicate 512 0)
unfolding reads_of
known-none t =
    record {
      last = λ c. 0;
      history = history-none t (λ c. 0) (λ c h. get_or-replicate 512 c Empty Empty h);
      recent = λ c h. omega arith;
      long-held = refl;
      long = refl;
      passed = λ c h. rw (zeros c h) (omega arith);
      earlier = λ c h. rw (zeros c h) refl;
    }
  where
    zeros : (c : ℕ) → c < 512 → ◌≡◌ {A = ℕ} (get_or (replicate 512 0) c 0) 0
    zeros c h = get_or-replicate {A = ℕ} 512 c 0 0 h

module _ {t : Task} {p i r a : ℕ} {held : List Line} {since : List ℕ} (w : Known t p i r a held since) where
  -- a region starts at edge i, after all reads
  pub known-region : Known t p i (r + 1) i held since
  known-region =
      record {
        last = w.last;
        history = w.history;
        recent = w.recent;
        long-held = w.long-held;
        long = w.long;
        passed = λ c h. omega (arith, w.passed c h);
        earlier = λ c h. rw (le-leb (w.last c) i (w.recent c h), lt-ltb (get_or since c 0) (suc (r + 1)) (omega (arith, w.passed c h))) refl;
      }

  -- the block after edge i
  pub known-block : Known t p (suc i) r a held since
  known-block =
      record {
        last = w.last;
        history = w.history;
        recent = λ c h. omega (arith, w.recent c h);
        long-held = w.long-held;
        long = w.long;
        passed = w.passed;
        earlier = w.earlier;
      }

-- read j of block i + 1, of number m
module _ (t : Task) (i j m : ℕ) (hi : i < block_count t) (hj : j < length (block_at t i).reads) (is : get_or (block_at t i).reads j 0 ≡ m)
    {r a : ℕ} {held : List Line} {since : List ℕ} (l : a ≤ i) (w : Known t (edge t i + j) (suc i) r a held since) where
  -- it lies on this line, or on none
  module _ (line : ℕ) (on : Bool) (hl : line < 512) (at : LiesOn t m line on) where
    pub known_more : (x : Line) (s : ℕ) → x ≡ cond on (Held m) (get_or held line Empty) → s ≡ cond on (suc r) (get_or since line 0)
        → Known t (suc (edge t i + j)) (suc i) r a (set held line x) (set since line s)
    known_more x s holds-now read-now =
        record {
          last = λ c. cond (eqb c line && on) (suc i) (w.last c);
          history =
              history-more t i j m hi hj is line on at (get_or-set_same held line x Empty (omega (arith, w.long-held)) ∙ holds-now) (rw (eq-eqb line line refl) refl)
              (λ d n. (get_or-set_other held line d x Empty n, rw (ne_eqb d line n) refl)) w.history;
          recent = λ c h. at_most (eqb c line && on) (w.recent c h);
          long-held = length-set held line _ ∙ w.long-held;
          long = length-set since line s ∙ w.long;
          passed = λ c h. by_cases (ℕ_discrete c line) (λ q. rw (q, here) (within on)) (λ n. rw (there c n) (w.passed c h));
          earlier =
              λ c h.
              by_cases (ℕ_discrete c line) (λ q. rw (q, here, eq-eqb line line refl) (first-here on))
              (λ n. rw (there c n, ne_eqb c line n) (w.earlier c h));
        }
      where
        at_most : (b : Bool) {n : ℕ} → n ≤ suc i → cond b (suc i) n ≤ suc i
        at_most true h = omega arith
        at_most false h = h

        within : (b : Bool) → cond b (suc r) (get_or since line 0) ≤ suc r
        within true = omega arith
        within false = w.passed line hl

        first-here : (b : Bool) → leb (cond b (suc i) (w.last line)) a ≡ ltb (cond b (suc r) (get_or since line 0)) (suc r)
        first-here true = lt-leb (suc i) a (omega arith) ∙ sym (le-ltb (suc r) (suc r) (omega arith))
        first-here false = w.earlier line hl

        here : get_or (set since line s) line 0 ≡ cond on (suc r) (get_or since line 0)
        here = get_or-set_same since line s 0 (omega (arith, w.long)) ∙ read-now

        there : (c : ℕ) → (c ≡ line → ⊥) → get_or (set since line s) c 0 ≡ get_or since c 0
        there c n = get_or-set_other since line c s 0 n

    -- whether the region loads it, as a line of h
    pub known-loads : (h : Lines) → loaded_by t h a (suc (edge t i + j))
        ≡ loaded_by t h a (edge t i + j) + bit (h line && on && same_block (get_or held line Empty) (Held m) && ltb (get_or since line 0) (suc r))
    known-loads h = rw (← (w.earlier line hl)) (loaded-more t h i j m hi hj is a l line on hl at w.history)

-- the lines of the regions of a list, as they were lent and as they are now
module _ (t : Task) (ps : List ℕ) (lent : List ℕ) where
  -- at edge i, in region r, which ends at or after it
  pub record AtEdge (i r count : ℕ) (lines : List ℕ) : Type 0 where
    pub index : r ≤ length ps
    pub passed : start_of t ps r ≤ i
    pub end : i ≤ get_or ps r (block_count t)
    pub long : length lines ≡ 64
    pub behind : (q : ℕ) → q < r → get_or lines q 0 ≡ region_lines t (start_of t ps q) (get_or ps q (block_count t))
    pub stored : start_of t ps r < i → get_or lines r 0 ≡ count
    pub counted : count ≡ loaded_by t (evicted t) (start_of t ps r) (edge t i)
    pub rest : (q : ℕ) → r < q → get_or lines q 0 ≡ get_or lent q 0

  pub at-start : length lent ≡ 64 → AtEdge 0 0 0 lent
  at-start long =
      record {
        index = omega arith;
        passed = omega arith;
        end = omega arith;
        long = long;
        behind = λ q l. absurd (omega arith);
        stored = λ l. absurd (omega arith);
        counted = sym (loaded-none t (evicted t) 0);
        rest = λ q l. refl;
      }

  module _ (least : 0 < block_count t) (right : wrong_point (block_count t) ps ≡ None) {i r count : ℕ} {lines : List ℕ} (w : AtEdge i r count lines) where
    -- there are as many edges before a region as regions, at least, and it is not empty
    pub edges : (r ≤ start_of t ps r) × (start_of t ps r < get_or ps r (block_count t)) × (get_or ps r (block_count t) ≤ block_count t)
    edges = region-edges (block_count t) ps least right r w.index

    -- the region ends here: the next one starts
    pub next-region : get_or ps r (block_count t) ≡ i → i < block_count t
        → AtEdge i (r + 1) 0 lines × (start_of t ps (r + 1) ≡ i) × (i < get_or ps (r + 1) (block_count t))
    next-region e h = (
      record {
        index = omega (arith, inside);
        passed = omega (arith, next);
        end = omega (arith, later);
        long = w.long;
        behind =
            below_more _ r w.behind
            (w.stored (omega (arith, edges.1)) ∙ w.counted ∙ loaded-all t (start_of t ps r) i w.passed (omega arith) ∙ rw e refl);
        stored = λ l. absurd (omega (arith, next));
        counted = rw next (sym (loaded-none t (evicted t) i));
        rest = λ q l. w.rest q (omega arith);
      },
      next,
      later,
    )
      where
        inside : r < length ps
        inside = by_cases (dec_lt r (length ps)) (λ l. l) (λ l. absurd (omega (arith, get_or-eq_default ps (block_count t) {n = r} (omega arith))))

        next : start_of t ps (r + 1) ≡ i
        next = rw (add-one r) e

        later : i < get_or ps (r + 1) (block_count t)
        later = omega (arith, next, (region-edges (block_count t) ps least right (r + 1) (omega (arith, inside))).1)

    -- a block is passed, and what was counted is stored
    pub next_edge : (n : ℕ) → block_count t ≤ 64 → i < get_or ps r (block_count t) → n ≡ loaded_by t (evicted t) (start_of t ps r) (edge t (suc i)) → AtEdge (i + 1) r n (set lines r n)
    next_edge n most l e =
        record {
          index = w.index;
          passed = omega (arith, w.passed);
          end = omega arith;
          long = length-set lines r n ∙ w.long;
          behind = λ q lt. get_or-set_other lines r q n 0 (λ s. omega arith) ∙ w.behind q lt;
          stored = λ _. get_or-set_same lines r n 0 (omega (arith, w.long, edges.0, edges.1, edges.2));
          counted = rw (add-one i) e;
          rest = λ q l. get_or-set_other lines r q n 0 (λ s. omega arith) ∙ w.rest q l;
        }

    -- at the end the region is the last: the next one would start before the end
    pub at_last : i ≡ block_count t → r ≡ length ps
    at_last e =
        by_cases (dec_lt r (length ps))
        (λ l.
        let next = region-edges (block_count t) ps least right (suc r) l in
        absurd (omega (arith, w.end, next.1, next.2)))
        (λ l. omega (arith, w.index))

    -- so no entry past the list's regions has changed
    pub rest-stays : i ≡ block_count t → RestStays ps lent lines
    rest-stays e q h = w.rest q (omega (arith, at_last e))

    -- and all regions are counted
    pub at-end : i ≡ block_count t → Loads t ps lines
    at-end e =
        record {
          long = w.long;
          loads = λ q h. ⊎_elim (λ s. let there : q ≡ r = s ∙ sym last in rw there here) (λ lt. w.behind q (omega (arith, last))) (eq-or-lt_of_le h);
        }
      where
        last : r ≡ length ps
        last = at_last e

        here : get_or lines r 0 ≡ region_lines t (start_of t ps r) (get_or ps r (block_count t))
        here =
            let whole : get_or ps r (block_count t) ≡ block_count t = get_or-eq_default ps (block_count t) {n = r} (omega (arith, last)) in
            w.stored (omega (arith, edges.1, whole)) ∙ w.counted ∙ loaded-all t (start_of t ps r) i w.passed (omega arith) ∙ rw (e, whole) refl
