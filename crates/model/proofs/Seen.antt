-- Of a task's preempters the answers see nothing but the lines that they evict: with other preempters that evict the same lines, a task has the
-- same useful lines, next reads, regions and misses (document 02, item 7).
-- Assumes nothing.
use Prim.Native.Nat.{ℕ, zero, suc, ◌+◌}
use mathlib.Core.Path.{◌≡◌, refl, sym, ap, subst, ◌∙◌, fun_ext}
use mathlib.Core.Bool.{Bool, ◌||◌}
use mathlib.Core.List.{List, [], ◌∷◌}
use Rattle.model.specs.Task.{Block, Preempter, Task, block_count, with_preempters}
use Rattle.model.specs.Lines.{bypasses, line_of, on_line, block_at, state_after, next_read, reads_looked_at, useful, accessed, evicted}
use Rattle.model.specs.Regions.{time_after, armed_after, loaded, region_lines, switch_ticks, region_cost, region_length, region_fits}
use Rattle.model.specs.Replay.{Cache, empty_cache, miss, fetch, misses, after, at_edge, walk, misses_with, misses_alone}

-- all that answers are made of is the same of two tasks
pub record SeenAlike (t u : Task) : Type 0 where
  pub count : block_count t ≡ block_count u
  pub header : t.header ≡ u.header
  pub next-read : next_read t ≡ next_read u
  pub looked-at : reads_looked_at t ≡ reads_looked_at u
  pub useful-lines : useful t ≡ useful u
  pub loaded_lines : loaded t ≡ loaded u
  pub region-lines : region_lines t ≡ region_lines u
  pub region-length : region_length t ≡ region_length u
  pub region-fits : region_fits t ≡ region_fits u
  pub region-cost : region_cost t ≡ region_cost u
  pub misses-alone : misses_alone t ≡ misses_alone u
  pub misses-with : misses_with t ≡ misses_with u

module _ (t : Task) (ps : List Preempter) (same : (c : ℕ) → evicted t c ≡ evicted (with_preempters t ps) c) where
  -- what does not see the preempters at all

  useful-same : useful t ≡ useful (with_preempters t ps)
  unfolding useful state_after next_read on_line line_of bypasses
  useful-same = refl

  next-same : next_read t ≡ next_read (with_preempters t ps)
  unfolding next_read on_line line_of bypasses
  next-same = refl

  looked-same : reads_looked_at t ≡ reads_looked_at (with_preempters t ps)
  unfolding reads_looked_at on_line line_of bypasses
  looked-same = refl

  accessed-same : accessed t ≡ accessed (with_preempters t ps)
  unfolding accessed on_line line_of bypasses block_at
  accessed-same = fun_ext go
    where
      go : (k : ℕ) → accessed t k ≡ accessed (with_preempters t ps) k
      go zero = refl
      go (suc i) = refl

  time-same : (a n : ℕ) → time_after t a n ≡ time_after (with_preempters t ps) a n
  unfolding time_after block_at
  time-same a zero = refl
  time-same a (suc n) = ap (λ (x : ℕ). x + (block_at t (a + n)).time) (time-same a n)

  armed-same : (a n : ℕ) → armed_after t a n ≡ armed_after (with_preempters t ps) a n
  unfolding armed_after block_at
  armed-same a zero = refl
  armed-same a (suc n) = ap (λ (x : Bool). x || (block_at t (a + n)).armed) (armed-same a n)

  -- regions see the lines that are evicted

  loaded-same : loaded t ≡ loaded (with_preempters t ps)
  unfolding loaded
  loaded-same = fun_ext (λ a. fun_ext (λ b. fun_ext (λ c. rw (useful-same, same c, accessed-same))))

  lines_same : region_lines t ≡ region_lines (with_preempters t ps)
  unfolding region_lines
  lines_same = fun_ext (λ a. fun_ext (λ b. rw loaded-same))

  cost-same : region_cost t ≡ region_cost (with_preempters t ps)
  unfolding region_cost switch_ticks
  cost-same = fun_ext (λ a. fun_ext (λ b. rw lines_same))

  length-same : region_length t ≡ region_length (with_preempters t ps)
  unfolding region_length
  length-same = fun_ext (λ a. fun_ext (λ b. rw (time-same, cost-same)))

  fits-same : region_fits t ≡ region_fits (with_preempters t ps)
  unfolding region_fits
  fits-same = fun_ext (λ a. fun_ext (λ b. rw (length-same, armed-same)))

  -- and so does a replay, at its points

  fetch-same : fetch t ≡ fetch (with_preempters t ps)
  unfolding fetch on_line line_of bypasses
  fetch-same = refl

  misses-same : (s : Cache) (ms : List ℕ) → misses t s ms ≡ misses (with_preempters t ps) s ms
  unfolding misses miss line_of bypasses
  misses-same s [] = refl
  misses-same s (m ∷ ms) = rw (misses-same (fetch t s m) ms, fetch-same)

  after_same : (s : Cache) (ms : List ℕ) → after t s ms ≡ after (with_preempters t ps) s ms
  unfolding after
  after_same s [] = refl
  after_same s (m ∷ ms) = after_same (fetch t s m) ms ∙ rw fetch-same

  edge_same : (qs : List ℕ) (k : ℕ) (s : Cache) → at_edge t qs k s ≡ at_edge (with_preempters t ps) qs k s
  unfolding at_edge
  edge_same qs k s = rw (fun_ext same)

  walk_same : (qs : List ℕ) (s : Cache) (k : ℕ) (bs : List Block) → walk t qs s k bs ≡ walk (with_preempters t ps) qs s k bs
  unfolding walk
  walk_same qs s k [] = refl
  walk_same qs s k (b ∷ bs) = rw (misses-same, walk_same qs (at_edge t qs (suc k) (after t s b.reads)) (suc k) bs, after_same, edge_same)

  with-same : misses_with t ≡ misses_with (with_preempters t ps)
  unfolding misses_with
  with-same = fun_ext (λ qs. walk_same qs empty_cache 0 t.blocks)

  replaced-alike : SeenAlike t (with_preempters t ps)
  unfolding misses_alone
  replaced-alike =
      record {
        count = refl;
        header = refl;
        next-read = next-same;
        looked-at = looked-same;
        useful-lines = useful-same;
        loaded_lines = loaded-same;
        region-lines = lines_same;
        region-length = length-same;
        region-fits = fits-same;
        region-cost = cost-same;
        misses-alone = rw with-same;
        misses-with = with-same;
      }

pub seen_alike : (t u : Task) → u ≡ with_preempters t u.preempters → ((c : ℕ) → evicted t c ≡ evicted u c) → SeenAlike t u
seen_alike t u e same = subst (λ (x : Task). SeenAlike t x) (sym e) (replaced-alike t u.preempters (λ c. same c ∙ ap (λ (x : Task). evicted x c) e))
