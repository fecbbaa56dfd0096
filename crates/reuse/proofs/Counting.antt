-- The walk that counts: its state after some of the reads of a task, at its start, after one read more, and at its end. Row r of the counts has
-- what the regions from the edges up to r load in block r + 1, as far as the walk has come: a count at column s is loaded by the regions from
-- the edges after s. Assumes nothing.
use Prim.Native.Nat.{ℕ, suc, ◌+◌, ◌*◌, ◌≤◌, ◌<◌}
use mathlib.Core.Path.{◌≡◌, refl, sym, ap, ◌∙◌}
use mathlib.Core.Bool.{Bool, true, false, cond, ◌&&◌, and-true, and-false}
use mathlib.Core.List.{List}
use mathlib.Core.Logic.{by_cases}
use native.Mathlib.Decide.{ℕ_discrete}
use native.Mathlib.Nat.{le_refl}
use native.Mathlib.Omega.{arith}
use lib.Dec.{ltb}
use lib.ListN.{length, get_or, set, replicate, length-set, get_or-replicate}
use lib.Seq.{get_or-set_same, get_or-set_other}
use borrow.Author.Tests.{lt-ltb}
use Rattle.model.specs.Sets.{bit}
use Rattle.model.specs.Task.{Task, block_count}
use Rattle.model.specs.Lines.{same_block, reads_of, block_at, evicted}
use Rattle.model.specs.Regions.{new_lines}
use Rattle.model.specs.declared.Line.{Line}
use Rattle.model.specs.declared.Line.TheVariants.{Empty, Held}
use Rattle.model.proofs.Histories.{LiesOn, History, history-none, history-more}
use Rattle.model.proofs.Loads.{loaded_by, loaded-all, loaded-more}
use Rattle.model.proofs.ReadOrder.{edge, edge-suc}
use Rattle.model.proofs.Regions.{region-longer}
use Rattle.reuse.specs.Counts.{row_sum}
use Rattle.reuse.proofs.Rows.{row-zeros, row_within, row_more, row_other}

-- row r where the walk has come to read q of the task, the reads before block r + 1 included
pub record Row (t : Task) (counts : List ℕ) (r q : ℕ) : Type 0 where
  pub loads : (a : ℕ) → a ≤ r → a ≤ 64 → row_sum counts r a + loaded_by t (evicted t) a (edge t r) ≡ loaded_by t (evicted t) a q
  pub few : row_sum counts r 64 + edge t r ≤ q

-- after p reads, the last of them in block i + 1 or before it
pub record Counting (t : Task) (i p : ℕ) (held : List Line) (since counts : List ℕ) : Type 0 where
  pub long-held : length held ≡ 512
  pub long-since : length since ≡ 512
  pub long : length counts ≡ 4096
  pub history : History t p (λ c. get_or held c Empty) (λ c. suc (get_or since c 0))
  pub recent : (c : ℕ) → c < 512 → get_or since c 0 ≤ i
  pub passed : (r : ℕ) → r < i → Row t counts r (edge t (suc r))
  pub here : Row t counts i p
  pub ahead : (r : ℕ) → i < r → Row t counts r (edge t r)

pub counting-none : (t : Task) → Counting t 0 (edge t 0) (replicate 512 Empty) (replicate 512 0) (replicate 4096 0)
unfolding reads_of
counting-none t =
    record {
      long-held = refl;
      long-since = refl;
      long = refl;
      history = history-none t (λ c. suc (get_or (replicate 512 0) c 0)) (λ c h. get_or-replicate 512 c Empty Empty h);
      recent = λ c h. rw (get_or-replicate {A = ℕ} 512 c 0 0 h) (omega arith);
      passed = λ r h. absurd (omega arith);
      here = zeros 0;
      ahead = λ r h. zeros r;
    }
  where
    zeros : (r : ℕ) → Row t (replicate 4096 0) r (edge t r)
    zeros r = record { loads = λ a h l. rw (row-zeros 4096 r a) (omega arith); few = rw (row-zeros 4096 r 64) (omega arith) }

-- a line's count is at most the reads of the block that are passed
pub count_small : (t : Task) (i p line : ℕ) {held : List Line} {since counts : List ℕ} → i < 64 → line < 512 → Counting t i p held since counts
    → get_or counts (64 * i + get_or since line 0) 0 + edge t i ≤ p
count_small t i p line {since = since} {counts} hi hl w =
    omega (arith, row_within counts i (get_or since line 0) (omega (arith, w.recent line hl)), w.here.few)

-- a row of which no count changes
row_kept : (t : Task) (counts counts' : List ℕ) (r q : ℕ) → ((n : ℕ) → n ≤ 64 → row_sum counts' r n ≡ row_sum counts r n) → Row t counts r q → Row t counts' r q
row_kept t counts counts' r q same w =
    record { loads = λ a h l. rw (same a l) (w.loads a h l); few = rw (same 64 (le_refl 64)) w.few }

-- a count is looked at from the next column on
looked : (b q : Bool) → cond q (bit b) 0 ≡ bit (b && q)
looked b true = ap bit (sym (and-true b))
looked b false = ap bit (sym (and-false b))

-- read j of block i + 1, of number m
module _ (t : Task) (i j m : ℕ) (hi : i < block_count t) (hj : j < length (block_at t i).reads) (is : get_or (block_at t i).reads j 0 ≡ m)
    {held : List Line} {since counts : List ℕ} (w : Counting t i (edge t i + j) held since counts) where
  -- it lies on this line, or on none: x is counted at the column of the line's last reader
  module _ (line x : ℕ) (on : Bool) (hl : line < 512) (at : LiesOn t m line on) (few-blocks : block_count t ≤ 64)
      (counted : x ≡ bit (evicted t line && on && same_block (get_or held line Empty) (Held m))) (one : x ≤ 1) where
    abbrev column : ℕ
    column = get_or since line 0

    in_row : column < 64
    in_row = omega (arith, w.recent line hl)

    in-counts : 64 * i + column < length counts
    in-counts = omega (arith, in_row, w.long)

    pub counting_more : (l : Line) (s : ℕ) → l ≡ cond on (Held m) (get_or held line Empty) → s ≡ cond on i column
        → Counting t i (suc (edge t i + j)) (set held line l) (set since line s) (set counts (64 * i + column) (get_or counts (64 * i + column) 0 + x))
    counting_more l s holds-now read-now =
        record {
          long-held = length-set held line l ∙ w.long-held;
          long-since = length-set since line s ∙ w.long-since;
          long = length-set counts _ _ ∙ w.long;
          history =
              history-more t i j m hi hj is line on at (get_or-set_same held line l Empty (omega (arith, w.long-held)) ∙ holds-now)
              (ap suc (get_or-set_same since line s 0 (omega (arith, w.long-since)) ∙ read-now) ∙ under on)
              (λ d n. (get_or-set_other held line d l Empty n, ap suc (get_or-set_other since line d s 0 n))) w.history;
          recent =
              λ c h.
              by_cases (ℕ_discrete c line) (λ e. rw (e, get_or-set_same since line s 0 (omega (arith, w.long-since)), read-now) (at_most on))
              (λ n. rw (get_or-set_other since line c s 0 n) (w.recent c h));
          passed = λ r h. row_kept t counts _ r _ (λ n l. row_other counts i column x in_row in-counts r n l (λ e. omega arith)) (w.passed r h);
          here =
              record {
                loads =
                    λ a h l.
                    rw (row_more counts i column x in_row in-counts a, loaded-more t (evicted t) i j m hi hj is a h line on hl at w.history, counted, looked _ (ltb column a))
                    (omega (arith, w.here.loads a h l));
                few = rw (row_more counts i column x in_row in-counts 64, lt-ltb column 64 in_row) (omega (arith, w.here.few));
              };
          ahead = λ r h. row_kept t counts _ r _ (λ n l. row_other counts i column x in_row in-counts r n l (λ e. omega arith)) (w.ahead r h);
        }
      where
        under : (b : Bool) → suc (cond b i column) ≡ cond b (suc i) (suc column)
        under true = refl
        under false = refl

        at_most : (b : Bool) → cond b i column ≤ i
        at_most true = le_refl i
        at_most false = w.recent line hl

-- the block's last read is passed
pub counting-block : (t : Task) (i : ℕ) {held : List Line} {since counts : List ℕ} → Counting t i (edge t (suc i)) held since counts
    → Counting t (suc i) (edge t (suc i)) held since counts
counting-block t i {counts = counts} w =
    record {
      long-held = w.long-held;
      long-since = w.long-since;
      long = w.long;
      history = w.history;
      recent = λ c h. omega (arith, w.recent c h);
      passed = λ r h. by_cases (ℕ_discrete r i) (λ e. rw e w.here) (λ n. w.passed r (omega arith));
      here = w.ahead (suc i) (le_refl (suc i));
      ahead = λ r h. w.ahead r (omega arith);
    }

-- at the end a row's sums are the lines that the regions load first in its block
module _ (t : Task) {p : ℕ} {held : List Line} {since counts : List ℕ} (i : ℕ) (end : i ≡ block_count t) (few-blocks : block_count t ≤ 64) (w : Counting t i p held since counts) where
  pub counting-all : (a r : ℕ) → a ≤ r → r < block_count t → row_sum counts r a ≡ new_lines t a (suc r)
  counting-all a r h l =
      omega (
        arith,
        (w.passed r (omega arith)).loads a h (omega arith),
        loaded-all t a r h (omega arith),
        loaded-all t a (suc r) (omega arith) l,
        region-longer t a r,
      )

  pub counting-few : (r : ℕ) → r < block_count t → row_sum counts r 64 ≤ length (block_at t r).reads
  counting-few r h = omega (arith, (w.passed r (omega arith)).few, edge-suc t r h)
