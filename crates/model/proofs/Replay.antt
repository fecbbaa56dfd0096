-- The misses of a replay with points against those of the replay alone.
-- At a point the cache with points is the other one with H emptied. A read on an emptied line misses; alone it misses too, unless the line holds
-- its number. So a region has one miss more for each line of H that its first read finds held alone, and these are its loaded lines. At the next
-- point H is emptied again, whatever was read since. Assumes nothing.
use Rattle.std.specs.Prelude.{None, Some}
use Prim.Native.Nat.{ℕ, suc, ◌+◌, ◌-◌, ◌%◌, ◌≤◌, ◌<◌, zero-le}
use mathlib.Core.Path.{◌≡◌, refl, sym, ap, ◌∙◌, fun_ext}
use mathlib.Core.Bool.{Bool, true, false, not, cond, ◌&&◌, and-false, and-eq-true_iff}
use mathlib.Core.List.{List, [], ◌∷◌, ◌++◌, append-nil}
use native.Mathlib.Nat.{le_refl, mod-lt, zero-add, add-zero, add_assoc}
use native.Mathlib.Omega.{arith}
use lib.Dec.{ltb}
use lib.ListN.{length, get_or, take, drop, take-append-drop, length-drop}
use lib.Seq.{length-take-le, take-add, take_all, drop-drop}
use borrow.Author.Tests.{eq-eqb, ne_eqb, ltb-true}
use Rattle.model.specs.Sets.{Lines, listed, bit, count_below}
use Rattle.model.specs.Task.{Block, Task, block_count, line_count}
use Rattle.model.specs.Lines.{bypasses, line_of, is_line, on_line, last_read, first_read, same_block, reads_of, block_at, state_after, evicted}
use Rattle.model.specs.Lists.{steps, regions, every, total, right_point}
use Rattle.model.specs.Regions.{loaded, region_lines, lines}
use Rattle.model.specs.Replay.{Cache, empty_cache, miss_at, miss, fetch, misses, after, emptied, at_edge, walk, misses_with, misses_alone}
use Rattle.model.specs.Laws.{AddedMisses}
use Rattle.model.specs.declared.Line.{Line}
use Rattle.model.specs.declared.Line.TheVariants.{Empty, Held}
use Rattle.model.proofs.Digits.{count-agree, count_none, count-one, count-sum}
use Rattle.model.proofs.LineStates.{never-empty}
use Rattle.model.proofs.Loads.{between, loaded-is}
use Rattle.model.proofs.Histories.{reads_before, Holds, before_more}
use Rattle.model.proofs.ReadOrder.{all_reads, edge, reads-append}

-- one line at a read of m, in a cache where it is l and in one that may have lost it: what the second one's miss adds now and is to add later.
-- f is the line's next read after this one
one_line : (on lost : Bool) (l f : Line) (m : ℕ)
    → bit (on && not (same_block (cond lost Empty l) (Held m))) + bit (lost && not on && same_block (cond on (Held m) l) f)
    ≡ bit (on && not (same_block l (Held m))) + bit (lost && same_block l (cond on (Held m) f))
one_line false false l f m = refl
one_line false true l f m = refl
one_line true false l f m = refl
one_line true true l f m = go (same_block l (Held m))
  where
    go : (hit : Bool) → 1 ≡ bit (not hit) + bit hit
    go true = refl
    go false = refl

-- no rising list that starts after a has a point up to a
none-listed : (n a : ℕ) (qs : List ℕ) (j : ℕ) → every (right_point n) (steps a qs) ≡ true → j ≤ a → listed qs j ≡ false
unfolding every steps listed
none-listed n a [] j w l = refl
none-listed n a (q ∷ qs) j w l =
    let both = (and-eq-true_iff (right_point n a q) (every (right_point n) (steps q qs))).0 w in
    let above : a < q = ltb-true a q ((and-eq-true_iff (ltb a q) (ltb q n)).0 both.0).0 in
    rw (ne_eqb q j (λ e. omega arith), none-listed n q qs j both.1 (omega arith))

module _ (t : Task) where
  misses-append : (s : Cache) (xs ys : List ℕ) → misses t s (xs ++ ys) ≡ misses t s xs + misses t (after t s xs) ys
  unfolding misses after
  misses-append s [] ys = sym (zero-add (misses t s ys))
  misses-append s (x ∷ xs) ys = rw (misses-append (fetch t s x) xs ys) (sym (add_assoc (bit (miss t s x)) _ _))

  after-append : (s : Cache) (xs ys : List ℕ) → after t s (xs ++ ys) ≡ after t (after t s xs) ys
  unfolding after
  after-append s [] ys = refl
  after-append s (x ∷ xs) ys = after-append (fetch t s x) xs ys

  after_line : (s : Cache) (xs : List ℕ) (c : ℕ) → after t s xs c ≡ last_read (on_line t c) (s c) xs
  unfolding after fetch last_read
  after_line s [] c = refl
  after_line s (x ∷ xs) c = after_line (fetch t s x) xs c

  -- emptying H makes up for having emptied it before
  emptied-again : (h : Lines) (s : Cache) (xs : List ℕ) → emptied h (after t (emptied h s) xs) ≡ emptied h (after t s xs)
  unfolding emptied
  emptied-again h s xs = fun_ext (λ c. rw (after_line (emptied h s) xs c, after_line s xs c) (go (h c) (s c) (on_line t c)))
    where
      go : (b : Bool) (l : Line) (on : ℕ → Bool) → cond b Empty (last_read on (cond b Empty l) xs) ≡ cond b Empty (last_read on l xs)
      go true l on = refl
      go false l on = refl

  -- blocks with no point after them, and blocks up to a point

  quiet : (ps : List ℕ) (s : Cache) (k : ℕ) (bs : List Block) → ((j : ℕ) → k < j → listed ps j ≡ false) → walk t ps s k bs ≡ misses t s (reads_of bs)
  unfolding walk at_edge reads_of misses
  quiet ps s k [] h = refl
  quiet ps s k (b ∷ bs) h =
      rw (h (suc k) (omega arith), quiet ps (after t s b.reads) (suc k) bs (λ j l. h j (omega arith)))
      (sym (misses-append s b.reads (reads_of bs)))

  up_to : (ps : List ℕ) (s : Cache) (k e : ℕ) (bs cs : List Block) → 0 < length bs → e ≡ k + length bs
      → ((j : ℕ) → k < j → j < e → listed ps j ≡ false)
      → walk t ps s k (bs ++ cs) ≡ misses t s (reads_of bs) + walk t ps (at_edge t ps e (after t s (reads_of bs))) e cs
  unfolding walk at_edge reads_of
  up_to ps s k e [] cs l q h = absurd (omega arith)
  up_to ps s k e (b ∷ []) cs l q h = let there : e ≡ suc k = omega arith in rw (append-nil, there) refl
  up_to ps s k e (b ∷ d ∷ bs) cs l q h =
      rw (
        h (suc k) (omega arith) (omega arith),
        up_to ps (after t s b.reads) (suc k) e (d ∷ bs) cs (omega arith) (omega arith) (λ j u v. h j (omega arith) v),
        misses-append s b.reads (reads_of (d ∷ bs)),
        after-append s b.reads (reads_of (d ∷ bs)),
      )
      (sym (add_assoc (misses t s b.reads) _ _))

  -- the cache alone at an edge

  abbrev cache_at : ℕ → Cache
  cache_at k = after t empty_cache (reads_of (take k t.blocks))

  module _ (a b : ℕ) (l : a ≤ b) where
    there : b ≡ a + (b - a)
    there = omega arith

    rest_at : drop a t.blocks ≡ between t a b ++ drop b t.blocks
    rest_at =
        sym (take-append-drop (b - a) (drop a t.blocks)) ∙
        ap (λ (bs : List Block). between t a b ++ bs) (drop-drop (b - a) a t.blocks ∙ ap (λ (n : ℕ). drop n t.blocks) (sym there))

    cache-at : cache_at b ≡ after t (cache_at a) (reads_of (between t a b))
    cache-at =
        ap (λ (n : ℕ). after t empty_cache (reads_of (take n t.blocks))) there ∙
        rw (take-add a (b - a) t.blocks, reads-append (take a t.blocks), after-append empty_cache) refl

  -- a loaded line is one of H whose first read in the region finds its number in the cache alone
  loaded-alone : (a b : ℕ) → a ≤ b → b ≤ block_count t → (c : ℕ)
      → loaded t a b c ≡ (evicted t c && same_block (cache_at a c) (first_read (on_line t c) (reads_of (between t a b))))
  unfolding state_after
  loaded-alone a b l h c = loaded-is t a b l h c ∙ rw (after_line empty_cache (reads_of (take a t.blocks)) c) refl

  module _ (least : 1 ≤ line_count t) (most : line_count t ≤ 512) where
    -- a read's miss: the lines on which it is one, of which there is one at most
    miss-lines : (s : Cache) (m : ℕ) → bit (miss t s m) ≡ count_below 512 (λ c. on_line t c m && not (same_block (s c) (Held m)))
    unfolding miss on_line line_of
    miss-lines s m = go (bypasses t m)
      where
        go : (b : Bool) → bit (miss_at s m (cond b None (Some (m % line_count t))))
            ≡ count_below 512 (λ c. is_line c (cond b None (Some (m % line_count t))) && not (same_block (s c) (Held m)))
        go true = sym (count_none 512 (λ c. false) (λ c l. refl))
        go false = sym (count-one 512 (m % line_count t) (λ c. not (same_block (s c) (Held m))) (omega (arith, mod-lt m least)))

    -- a read of m with some lines lost and with none; f is each line's read after it
    read-misses : (lost : Lines) (s : Cache) (m : ℕ) (f : ℕ → Line)
        → bit (miss t (emptied lost s) m) + count_below 512 (λ c. lost c && not (on_line t c m) && same_block (fetch t s m c) (f c))
        ≡ bit (miss t s m) + count_below 512 (λ c. lost c && same_block (s c) (cond (on_line t c m) (Held m) (f c)))
    unfolding emptied fetch
    read-misses lost s m f =
        rw (miss-lines (emptied lost s) m, miss-lines s m)
        (count-sum 512 _ _ _ _ (λ c h. one_line (on_line t c m) (lost c) (s c) (f c) m))

    -- a cache that lost some lines misses once more for each of them that holds its next read in the other
    lost-misses : (lost : Lines) (s : Cache) (xs : List ℕ)
        → misses t (emptied lost s) xs ≡ misses t s xs + count_below 512 (λ c. lost c && same_block (s c) (first_read (on_line t c) xs))
    unfolding misses emptied fetch first_read
    lost-misses lost s [] = rw (count_none 512 (λ c. lost c && same_block (s c) Empty) (λ c l. rw (never-empty (s c)) (and-false (lost c)))) refl
    lost-misses lost s (m ∷ xs) =
        rw loses
        (omega (arith, read-misses lost s m (λ c. first_read (on_line t c) xs), lost-misses (λ c. lost c && not (on_line t c m)) (fetch t s m) xs))
      where
        go : (on lost : Bool) (l : Line) → cond on (Held m) (cond lost Empty l) ≡ cond (lost && not on) Empty (cond on (Held m) l)
        go true true l = refl
        go true false l = refl
        go false true l = refl
        go false false l = refl

        loses : fetch t (emptied lost s) m ≡ emptied (λ c. lost c && not (on_line t c m)) (fetch t s m)
        loses = fun_ext (λ c. go (on_line t c m) (lost c) (s c))

    -- so a region from an edge where H was emptied has one miss more for each loaded line
    region-misses : (a b : ℕ) → a ≤ b → b ≤ block_count t
        → misses t (emptied (evicted t) (cache_at a)) (reads_of (between t a b)) ≡ misses t (cache_at a) (reads_of (between t a b)) + region_lines t a b
    unfolding region_lines
    region-misses a b l h = rw (lost-misses (evicted t) (cache_at a) (reads_of (between t a b)), count-agree 512 (λ c m. loaded-alone a b l h c)) refl

    -- from an edge where H was emptied to the end
    from-edge : (ps qs : List ℕ) (a : ℕ) → a ≤ block_count t → every (right_point (block_count t)) (steps a qs) ≡ true
        → ((j : ℕ) → a < j → listed ps j ≡ listed qs j)
        → walk t ps (emptied (evicted t) (cache_at a)) a (drop a t.blocks)
        ≡ misses t (cache_at a) (reads_of (drop a t.blocks)) + total (region_lines t) (regions (block_count t) a qs)
    unfolding every steps total regions listed at_edge
    from-edge ps [] a l w h =
        let whole : between t a (block_count t) ≡ drop a t.blocks = take_all (block_count t - a) (drop a t.blocks) (omega (arith, length-drop a t.blocks)) in
        rw (quiet ps (emptied (evicted t) (cache_at a)) a (drop a t.blocks) h, ← whole, region-misses a (block_count t) l (le_refl (block_count t)), add-zero)
    from-edge ps (q ∷ qs) a l w h =
        let both = (and-eq-true_iff (right_point (block_count t) a q) (every (right_point (block_count t)) (steps q qs))).0 w in
        let right = (and-eq-true_iff (ltb a q) (ltb q (block_count t))).0 both.0 in
        let above : a < q = ltb-true a q right.0 in
        let below : q < block_count t = ltb-true q (block_count t) right.1 in
        let sized = length-take-le (q - a) (drop a t.blocks) (omega (arith, length-drop a t.blocks)) in
        let here : listed ps q ≡ true = h q above ∙ rw (eq-eqb q q refl) refl in
        let next : (j : ℕ) → a < j → j < q → listed ps j ≡ false =
        λ j u v. h j u ∙ rw (ne_eqb q j (λ e. omega arith), none-listed (block_count t) q qs j both.1 (omega arith)) refl in
        let ih = from-edge ps qs q (omega arith) both.1 (λ j u. h j (omega arith) ∙ rw (ne_eqb q j (λ e. omega arith)) refl) in
        rw (
          rest_at a q (omega arith),
          up_to ps (emptied (evicted t) (cache_at a)) a q (between t a q) (drop q t.blocks) (omega arith) (omega arith) next,
          here,
          emptied-again,
          ← (cache-at a q (omega arith)),
          reads-append (between t a q),
          misses-append,
          ← (cache-at a q (omega arith)),
        )
        (omega (arith, region-misses a q (omega arith) (omega arith), ih))

-- the replay alone misses those of all reads
pub misses-alone : (t : Task) → misses_alone t ≡ misses t empty_cache (all_reads t)
unfolding misses_alone misses_with listed
misses-alone t = quiet t [] empty_cache 0 t.blocks (λ j l. refl)

-- and its misses grow with read j of block i + 1, of number m
module _ (t : Task) (i j m : ℕ) (hi : i < block_count t) (hj : j < length (block_at t i).reads) (is : get_or (block_at t i).reads j 0 ≡ m) where
  misses-one : misses t empty_cache (reads_before t (suc (edge t i + j)))
      ≡ misses t empty_cache (reads_before t (edge t i + j)) + bit (miss t (after t empty_cache (reads_before t (edge t i + j))) m)
  unfolding misses
  misses-one =
      ap (misses t empty_cache) (before_more t i j m hi hj is) ∙ misses-append t empty_cache (reads_before t (edge t i + j)) (m ∷ []) ∙
      ap (λ (n : ℕ). misses t empty_cache (reads_before t (edge t i + j)) + n) (add-zero _)

  -- on no line it is no miss
  pub misses-skip : line_of t m ≡ None → misses t empty_cache (reads_before t (suc (edge t i + j))) ≡ misses t empty_cache (reads_before t (edge t i + j))
  unfolding miss
  misses-skip at = misses-one ∙ rw at (add-zero _)

  -- on a line it misses where the line does not hold it
  pub misses_more : {held : ℕ → Line} (line : ℕ) → line < 512 → line_of t m ≡ Some line → Holds t (edge t i + j) held
      → misses t empty_cache (reads_before t (suc (edge t i + j)))
      ≡ misses t empty_cache (reads_before t (edge t i + j)) + bit (not (same_block (held line) (Held m)))
  unfolding miss
  misses_more line hl at h = misses-one ∙ rw (at, after_line t empty_cache (reads_before t (edge t i + j)) line, ← (h line hl)) refl

-- an empty cache has nothing to lose
empty-loses : (h : Lines) → emptied h empty_cache ≡ empty_cache
unfolding emptied
empty-loses h = fun_ext (λ c. go (h c))
  where
    go : (b : Bool) → cond b Empty Empty ≡ Empty
    go true = refl
    go false = refl

pub added-misses : AddedMisses
unfolding misses_with misses_alone reads_of after listed
added-misses t least most ps w =
    ap (λ (s : Cache). walk t ps s 0 t.blocks) (sym (empty-loses (evicted t))) ∙ from-edge t least most ps ps 0 zero-le w (λ j l. refl) ∙
    ap (λ (n : ℕ). n + lines t ps) (sym (misses-alone t))
