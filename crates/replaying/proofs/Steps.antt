-- The walk's state: what the lines hold alone and since when, and both counts. The count with the points is ahead of the other by the lines that the
-- regions passed have loaded, and those that the region from the last point has loaded so far. And the points that are left, which are read
-- in step with the edges. Assumes nothing.
use Rattle.std.specs.Prelude.{None, Some}
use Prim.Native.Nat.{ℕ, suc, ◌+◌, ◌≤◌, ◌<◌}
use mathlib.Core.Path.{◌≡◌, refl, sym, ap, ◌∙◌}
use mathlib.Core.Bool.{Bool, true, false, not, cond, ◌&&◌, and-true, and-false, and-eq-true_iff}
use mathlib.Core.List.{List, [], ◌∷◌}
use mathlib.Core.Logic.{by_cases}
use native.Mathlib.Decide.{dec_lt}
use native.Mathlib.Nat.{le_refl, add-zero}
use native.Mathlib.Numerals.{add-one}
use native.Mathlib.Omega.{arith}
use lib.Dec.{eqb, leb, ltb}
use lib.ListN.{length, get_or, set, drop, replicate, length-set, get_or-replicate, get_or-eq_default}
use lib.Seq.{drop-cons, get_or-drop, get_or-set_same, get_or-set_other, take-length}
use borrow.Author.Tests.{eqb-true, eqb-false, ltb-true, lt-ltb}
use Rattle.model.specs.Sets.{bit}
use Rattle.model.specs.Task.{Task, block_count, line_count}
use Rattle.model.specs.Lines.{line_of, same_block, reads_of, block_at, evicted}
use Rattle.model.specs.Lists.{steps, every, right_point, regions, total, well_formed}
use Rattle.model.specs.Regions.{region_lines, lines}
use Rattle.model.specs.Replay.{empty_cache, misses, misses_alone, misses_with}
use Rattle.model.specs.declared.Line.{Line}
use Rattle.model.specs.declared.Line.TheVariants.{Empty, Held}
use Rattle.model.proofs.Histories.{reads_before, lies-cached, lies-uncached, History, history-none, history-more}
use Rattle.model.proofs.Loads.{loaded_by, loaded-none, loaded-all, loaded-more}
use Rattle.model.proofs.ReadOrder.{all_reads, edge, edge-end}
use Rattle.model.proofs.Replay.{misses-alone, misses-skip, misses_more, added-misses}
use Rattle.replaying.specs.declared.Passed.{Passed}

-- a read that finds its number on a lost line is a miss more
lost-adds : (h l : Bool) (s : Line) (m : ℕ)
    → bit (not (same_block (cond (h && l) Empty s) (Held m))) ≡ bit (not (same_block s (Held m))) + bit (h && same_block s (Held m) && l)
lost-adds true true s m = go (same_block s (Held m))
  where
    go : (hit : Bool) → 1 ≡ bit (not hit) + bit (hit && true)
    go true = refl
    go false = refl
lost-adds true false s m = rw and-false (omega arith)
lost-adds false l s m = omega arith

module _ (t : Task) (ps : List ℕ) where
  -- after p reads, with the last point passed and the index of the next one
  pub record Replayed (p : ℕ) (passed : Passed) (held : List Line) (since : List ℕ) (alone preempted : ℕ) : Type 0 where
    pub long-held : length held ≡ 512
    pub long-since : length since ≡ 512
    pub history : History t p (λ c. get_or held c Empty) (λ c. get_or since c 0)
    pub alone-is : alone ≡ misses t empty_cache (reads_before t p)
    pub preempted-is : preempted + total (region_lines t) (regions (block_count t) passed.last (drop passed.next ps)) ≡ alone + lines t ps + loaded_by t (evicted t) passed.last p

  pub at-start : Replayed (edge t 0) (record { next = 0; last = 0 }) (replicate 512 Empty) (replicate 512 0) 0 0
  unfolding misses reads_of
  at-start =
      record {
        long-held = refl;
        long-since = refl;
        history = history-none t (λ c. get_or (replicate 512 0) c 0) (λ c h. get_or-replicate 512 c Empty Empty h);
        alone-is = refl;
        preempted-is = omega (arith, loaded-none t (evicted t) 0);
      }

  -- read j of block i + 1, of number m
  module _ {i j alone preempted : ℕ} {passed : Passed} {held : List Line} {since : List ℕ} (m : ℕ) (hi : i < block_count t) (hj : j < length (block_at t i).reads)
      (is : get_or (block_at t i).reads j 0 ≡ m) (before : passed.last ≤ i) (w : Replayed (edge t i + j) passed held since alone preempted) where
    -- on no line
    pub read-skip : line_of t m ≡ None → Replayed (suc (edge t i + j)) passed held since alone preempted
    read-skip at =
        record {
          long-held = w.long-held;
          long-since = w.long-since;
          history = history-more t i j m hi hj is 0 false (lies-uncached t m at) refl refl (λ d n. (refl, refl)) w.history;
          alone-is = w.alone-is ∙ sym (misses-skip t i j m hi hj is at);
          preempted-is = omega (arith, w.preempted-is, rw and-false at (loaded-more t (evicted t) i j m hi hj is passed.last before 0 false (omega arith) (lies-uncached t m at) w.history));
        }

    -- on this line; x and y are its misses
    pub read_more : (line k x y : ℕ) → line < 512 → line_of t m ≡ Some line → k ≡ suc i → x ≡ bit (not (same_block (get_or held line Empty) (Held m)))
        → y ≡ bit (not (same_block (cond (evicted t line && leb (get_or since line 0) passed.last) Empty (get_or held line Empty)) (Held m)))
        → Replayed (suc (edge t i + j)) passed (set held line (Held m)) (set since line k) (alone + x) (preempted + y)
    read_more line k x y hl at ek ex ey =
        record {
          long-held = length-set held line _ ∙ w.long-held;
          long-since = length-set since line _ ∙ w.long-since;
          history =
              history-more t i j m hi hj is line true (lies-cached t m line at) (get_or-set_same held line (Held m) Empty (omega (arith, w.long-held)))
              (get_or-set_same since line k 0 (omega (arith, w.long-since)) ∙ ek)
              (λ d n. (get_or-set_other held line d (Held m) Empty n, get_or-set_other since line d k 0 n)) w.history;
          alone-is = omega (arith, w.alone-is, ex, misses_more t i j m hi hj is line hl at w.history.holds);
          preempted-is =
              omega (
                arith,
                w.preempted-is,
                ex,
                ey,
                lost-adds (evicted t line) (leb (get_or since line 0) passed.last) (get_or held line Empty) m,
                rw and-true at (loaded-more t (evicted t) i j m hi hj is passed.last before line true hl (lies-cached t m line at) w.history),
              );
        }

  -- the points from index next on come after edge i
  abbrev pub PointsLeft : ℕ → ℕ → Type 0
  PointsLeft i next = every (right_point (block_count t)) (steps i (drop next ps)) ≡ true

  -- if the first of rising points is not the next edge, they are all after it
  all_after : (n i : ℕ) (qs : List ℕ) → every (right_point n) (steps i qs) ≡ true → eqb (get_or qs 0 0) (suc i) ≡ false → every (right_point n) (steps (suc i) qs) ≡ true
  unfolding every steps
  all_after n i [] w e = refl
  all_after n i (q ∷ qs) w e =
      let both = (and-eq-true_iff (right_point n i q) (every (right_point n) (steps q qs))).0 w in
      let right = (and-eq-true_iff (ltb i q) (ltb q n)).0 both.0 in
      rw (lt-ltb (suc i) q (omega (arith, ltb-true i q right.0, eqb-false q (suc i) e)), right.1, both.1) refl

  -- and none is after the last edge
  none_after : (n : ℕ) (qs : List ℕ) → every (right_point n) (steps n qs) ≡ true → qs ≡ []
  unfolding every steps
  none_after n [] w = refl
  none_after n (q ∷ qs) w =
      let right = (and-eq-true_iff (ltb n q) (ltb q n)).0 ((and-eq-true_iff (right_point n n q) (every (right_point n) (steps q qs))).0 w).0 in
      absurd (omega (arith, ltb-true n q right.0, ltb-true q n right.1))

  module _ {i alone preempted : ℕ} {passed : Passed} {held : List Line} {since : List ℕ} (before : passed.last ≤ i) (left : PointsLeft i passed.next) where
    -- the edge after block i + 1: r is what passing it makes of the points passed. At a point the region before it is whole
    pub pass-edge : (r : Passed) → r ≡ cond (eqb (get_or ps passed.next 0) (suc i)) (record { next = passed.next + 1; last = suc i }) passed → i < block_count t
        → Replayed (edge t (suc i)) passed held since alone preempted
        → Replayed (edge t (suc i)) r held since alone preempted × (r.last ≤ suc i) × PointsLeft (suc i) r.next
    unfolding every steps total regions
    pass-edge r passes hi w = go (eqb (get_or ps passed.next 0) (suc i)) refl passes
      where
        go : (b : Bool) → eqb (get_or ps passed.next 0) (suc i) ≡ b → r ≡ cond b (record { next = passed.next + 1; last = suc i }) passed
            → Replayed (edge t (suc i)) r held since alone preempted × (r.last ≤ suc i) × PointsLeft (suc i) r.next
        go true e q =
            let is : get_or ps passed.next 0 ≡ suc i = eqb-true (get_or ps passed.next 0) (suc i) e in
            let inside : passed.next < length ps =
            by_cases (dec_lt passed.next (length ps)) (λ h. h) (λ h. absurd (omega (arith, get_or-eq_default ps 0 {n = passed.next} (omega arith)))) in
            let split : drop passed.next ps ≡ suc i ∷ drop (passed.next + 1) ps = drop-cons ps passed.next 0 inside ∙ rw (is, add-one) refl in
            rw q (
              record {
                long-held = w.long-held;
                long-since = w.long-since;
                history = w.history;
                alone-is = w.alone-is;
                preempted-is = omega (arith, rw split at w.preempted-is, loaded-all t passed.last (suc i) (omega arith) hi, loaded-none t (evicted t) (suc i));
              },
              omega arith,
              ((and-eq-true_iff (right_point (block_count t) i (suc i)) _).0 (rw split at left)).1,
            )
        go false e q =
            rw q (w, omega arith, all_after (block_count t) i (drop passed.next ps) left (rw (get_or-drop passed.next ps 0 0, add-zero) e))

    -- at the end both counts are those of the replays
    pub at-end : 1 ≤ line_count t → line_count t ≤ 512 → well_formed (block_count t) ps ≡ true → i ≡ block_count t → Replayed (edge t i) passed held since alone preempted
        → (misses_alone t ≡ alone) × (misses_with t ps ≡ preempted)
    unfolding total regions
    at-end least most formed e w =
        let none : drop passed.next ps ≡ [] = none_after (block_count t) (drop passed.next ps) (rw e at left) in
        let all : reads_before t (edge t i) ≡ all_reads t = rw (e, edge-end t) (take-length (all_reads t)) in
        let alone-all : misses_alone t ≡ alone = misses-alone t ∙ sym (w.alone-is ∙ ap (misses t empty_cache) all) in (
          alone-all,
          added-misses t least most ps formed ∙
              omega (arith, alone-all, rw (none, e) at w.preempted-is, loaded-all t passed.last (block_count t) (omega arith) (le_refl (block_count t))),
        )
