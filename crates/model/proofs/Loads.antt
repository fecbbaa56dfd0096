-- The lines that a region loads, counted read by read. A line of H is loaded when the first read of it in the region finds its number there, and
-- that is a read of the number that the line holds since a block up to the region's edge. So each read adds one line at most, and whether it
-- does is told by the line's history. All of it is said of any set of lines in place of H, since charges count parts of H. Assumes nothing.
use Prim.Native.Nat.{ℕ, zero, suc, ◌+◌, ◌-◌, ◌≤◌, ◌<◌}
use mathlib.Core.Path.{◌≡◌, refl, sym, ap, ◌∙◌}
use mathlib.Core.Bool.{Bool, true, false, cond, ◌&&◌, and-true, and-false, and_comm, and_assoc}
use mathlib.Core.List.{List, [], ◌∷◌, append-nil}
use native.Mathlib.Nat.{add-suc}
use native.Mathlib.Omega.{arith}
use lib.Dec.{eqb, leb, ltb}
use lib.ListN.{length, get_or, take, drop, take-append-drop, length-drop}
use lib.Seq.{take-suc, take-add, get_or-drop, drop-append_seam, drop-length}
use borrow.Author.Tests.{ltb-true, ltb-false, le-leb, lt-leb}
use Rattle.model.specs.Sets.{Lines, bit, count_below, size}
use Rattle.model.specs.Task.{Block, Task, block_count, no_block}
use Rattle.model.specs.Lines.{on_line, last_read, first_read, any_read, same_block, reads_of, block_at, state_after, next_read, useful, accessed, evicted}
use Rattle.model.specs.Regions.{union_after, loaded, region_lines}
use Rattle.model.specs.declared.Line.{Line}
use Rattle.model.specs.declared.Line.TheVariants.{Empty, Held}
use Rattle.model.proofs.Digits.{count-agree, count-le, count_none, count-one, count-sum}
use Rattle.model.proofs.LineStates.{any_append, first-none, first-append, never-empty}
use Rattle.model.proofs.ReadOrder.{edge, edge-rises, take-edge, reads-append}
use Rattle.model.proofs.Histories.{reads_since, is_held, LiesOn, History, one_more, state-from}

module _ (t : Task) where
  -- the blocks of a region
  abbrev pub between : ℕ → ℕ → List Block
  between a b = take (b - a) (drop a t.blocks)

  pub union-reads : (a n c : ℕ) → a + n ≤ block_count t → union_after (accessed t) a n c ≡ any_read (on_line t c) (reads_of (take n (drop a t.blocks)))
  unfolding union_after accessed block_at any_read reads_of
  union-reads a zero c h = refl
  union-reads a (suc n) c h =
      rw (
        add-suc,
        take-suc (drop a t.blocks) n no_block (omega (arith, length-drop a t.blocks)),
        reads-append,
        any_append,
        get_or-drop,
        append-nil,
        union-reads a n c (omega arith),
      ) refl

  -- a loaded line is one of H whose first read in the region finds its number
  pub loaded-is : (a b : ℕ) → a ≤ b → b ≤ block_count t → (c : ℕ)
      → loaded t a b c ≡ (evicted t c && same_block (state_after t a c) (first_read (on_line t c) (reads_of (between a b))))
  unfolding loaded useful next_read
  loaded-is a b l h c =
      rw (union-reads a (b - a) c (omega arith), next) (go (state_after t a c) (evicted t c) (any_read on xs) refl)
    where
      on : ℕ → Bool
      on = on_line t c

      xs : List ℕ
      xs = reads_of (between a b)

      ys : List ℕ
      ys = reads_of (drop (b - a) (drop a t.blocks))

      next : first_read on (reads_of (drop a t.blocks)) ≡ cond (any_read on xs) (first_read on xs) (first_read on ys)
      next = ap (λ (bs : List Block). first_read on (reads_of bs)) (sym (take-append-drop (b - a) (drop a t.blocks))) ∙
          ap (first_read on) (reads-append (between a b) (drop (b - a) (drop a t.blocks))) ∙ first-append on xs ys

      go : (l : Line) (h any : Bool) → any_read on xs ≡ any
          → (same_block l (cond any (first_read on xs) (first_read on ys)) && h && any) ≡ (h && same_block l (first_read on xs))
      go l h true e = and-true (same_block l (first_read on xs) && h) ∙ and_comm (same_block l (first_read on xs)) h
      go l h false e =
          and-false (same_block l (first_read on ys) && h) ∙
          sym (ap (λ (f : Line). h && same_block l f) (first-none on xs e) ∙ ap (λ (x : Bool). h && x) (never-empty l) ∙ and-false h)

  -- the reads of a region
  reads-between : (a b : ℕ) → a ≤ b → reads_since t a (edge t b) ≡ reads_of (between a b)
  reads-between a b l =
      ap (drop (edge t a))
      (take-edge t b ∙ ap (λ (n : ℕ). reads_of (take n t.blocks)) there ∙ ap reads_of (take-add a (b - a) t.blocks) ∙ reads-append (take a t.blocks) (between a b))
      ∙ drop-append_seam (reads_of (take a t.blocks)) (reads_of (between a b))
    where
      there : b ≡ a + (b - a)
      there = omega arith

-- how many lines of h the region from edge a loads in the first p reads of the task, where just the lines of h are evicted
unfoldable pub loaded_by : Task → Lines → ℕ → ℕ → ℕ
loaded_by t h a p = count_below 512 (λ c. h c && same_block (state_after t a c) (first_read (on_line t c) (reads_since t a p)))

pub loaded-few : (t : Task) (h : Lines) (a p : ℕ) → loaded_by t h a p ≤ 512
unfolding loaded_by
loaded-few t h a p = count-le 512 _

-- at a region's end all its lines are counted
pub loaded-all : (t : Task) (a b : ℕ) → a ≤ b → b ≤ block_count t → loaded_by t (evicted t) a (edge t b) ≡ region_lines t a b
unfolding loaded_by region_lines
loaded-all t a b l h = count-agree 512 (λ c m. rw (reads-between t a b l) (sym (loaded-is t a b l h c)))

-- and all those of a part of H
pub loaded-part : (t : Task) (s : Lines) (a b : ℕ) → a ≤ b → b ≤ block_count t
    → loaded_by t (λ c. evicted t c && s c) a (edge t b) ≡ size (λ c. loaded t a b c && s c)
unfolding loaded_by
loaded-part t s a b l h = count-agree 512 (λ c m. rw (reads-between t a b l, loaded-is t a b l h c) (swap (evicted t c) (s c) _))
  where
    swap : (x y z : Bool) → (x && y && z) ≡ (x && z && y)
    swap true y z = and_comm y z
    swap false y z = refl

-- one line at one read more, of m: l is what it held at the edge and s what it holds now, f its first read since the edge, if there is any
one_line : (on h any : Bool) (l s f : Line) (m since a : ℕ) → (any ≡ false → s ≡ l) → (any ≡ false → f ≡ Empty) → any ≡ (is_held s && ltb a since)
    → bit (h && same_block l (cond any f (cond on (Held m) Empty))) + bit false
    ≡ bit (h && same_block l f) + bit (on && (h && same_block s (Held m) && leb since a))
one_line on h true l Empty f m since a same none e = let z : ◌≡◌ {A = ℕ} 0 1 = ap bit (sym e) in absurd (omega arith)
one_line on h true l (Held n) f m since a same none e =
    rw (lt-leb since a (ltb-true a since (sym e)), and-false (h && same_block (Held n) (Held m)), and-false on)
one_line on h false l Empty f m since a same none e = rw (none refl, ← (same refl)) (go on h)
  where
    go : (on h : Bool) → bit (h && same_block Empty (cond on (Held m) Empty)) + 0 ≡ bit (h && false) + bit (on && (h && false && leb since a))
    go true true = refl
    go true false = refl
    go false true = refl
    go false false = refl
one_line on h false l (Held n) f m since a same none e =
    rw (none refl, ← (same refl), le-leb since a (ltb-false a since (sym e))) (go on h)
  where
    go : (on h : Bool) → bit (h && same_block (Held n) (cond on (Held m) Empty)) + 0 ≡ bit (h && false) + bit (on && (h && eqb n m && true))
    go true true = rw and-true (omega arith)
    go true false = refl
    go false true = refl
    go false false = refl

module _ (t : Task) (h : Lines) where
  -- none up to its edge
  pub loaded-none : (a : ℕ) → loaded_by t h a (edge t a) ≡ 0
  unfolding loaded_by first_read
  loaded-none a =
      count_none 512 _
      (λ c _. rw (take-edge t a, drop-length) (ap (λ (x : Bool). h c && x) (never-empty (state_after t a c)) ∙ and-false (h c)))

  -- read j of block i + 1, of number m, in a region from an edge before it
  module _ (i j m : ℕ) (hi : i < block_count t) (hj : j < length (block_at t i).reads) (is : get_or (block_at t i).reads j 0 ≡ m) (a : ℕ) (ha : a ≤ i) where
    first_more : (c : ℕ) → first_read (on_line t c) (reads_since t a (suc (edge t i + j)))
        ≡ cond (any_read (on_line t c) (reads_since t a (edge t i + j))) (first_read (on_line t c) (reads_since t a (edge t i + j))) (cond (on_line t c m) (Held m) Empty)
    unfolding first_read
    first_more c = ap (first_read (on_line t c)) (one_more t i j m hi hj is a ha) ∙ first-append (on_line t c) (reads_since t a (edge t i + j)) (m ∷ [])

    -- it lies on this line, or on none: the region loads the line if it is of h and m was read on
    -- it last, in a block up to the region's edge
    pub loaded-more : {held : ℕ → Line} {since : ℕ → ℕ} (line : ℕ) (on : Bool) → line < 512 → LiesOn t m line on → History t (edge t i + j) held since
        → loaded_by t h a (suc (edge t i + j)) ≡ loaded_by t h a (edge t i + j) + bit (h line && on && same_block (held line) (Held m) && leb (since line) a)
    unfolding loaded_by state_after
    loaded-more {held} {since} line on low at w =
        let each = count-sum 512 (λ c. h c && same_block (state_after t a c) (first_read (on_line t c) (reads_since t a (suc (edge t i + j))))) (λ c. false)
        (λ c. h c && same_block (state_after t a c) (first_read (on_line t c) (reads_since t a (edge t i + j))))
        (λ c. eqb c line && (h c && on && same_block (held c) (Held m) && leb (since c) a)) line-by-line in
        omega (arith, each, count_none 512 (λ c. false) (λ c _. refl), count-one 512 line (λ c. h c && on && same_block (held c) (Held m) && leb (since c) a) low)
      where
        regroup : (e h x y : Bool) → (e && on && (h && x && y)) ≡ (e && (h && on && x && y))
        regroup false h x y = refl
        regroup true true x y = sym (and_assoc on x y)
        regroup true false x y = and-false on

        line-by-line : (c : ℕ) → c < 512
            → bit (h c && same_block (state_after t a c) (first_read (on_line t c) (reads_since t a (suc (edge t i + j))))) + bit false
            ≡ bit (h c && same_block (state_after t a c) (first_read (on_line t c) (reads_since t a (edge t i + j)))) +
            bit (eqb c line && (h c && on && same_block (held c) (Held m) && leb (since c) a))
        line-by-line c low =
            rw (first_more c, ← (regroup (eqb c line) (h c) (same_block (held c) (Held m)) (leb (since c) a)), ← (at c))
            (one_line (on_line t c m) (h c) (any_read (on_line t c) (reads_since t a (edge t i + j))) (state_after t a c) (held c)
            (first_read (on_line t c) (reads_since t a (edge t i + j))) m (since c) a
            (λ e. w.holds c low ∙ state-from t c a (edge t i + j) (omega (arith, edge-rises t a i ha)) e ∙ ap (last_read (on_line t c) Empty) (take-edge t a))
            (first-none (on_line t c) (reads_since t a (edge t i + j))) (w.last c low a))
