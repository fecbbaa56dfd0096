-- First reads as they are noted, read after read and block after block: what some reads do to the arrays, and others after them, is what all of
-- them do. Assumes nothing.
use Rattle.std.specs.Prelude.{Option}
use Prim.Native.Nat.{ℕ, suc, ◌+◌, ◌-◌, ◌≤◌, ◌<◌}
use mathlib.Core.Path.{◌≡◌, refl, sym, ap, ◌∙◌}
use mathlib.Core.Bool.{Bool, true, false, not, cond, ◌&&◌, ◌||◌, or-false, and-false}
use mathlib.Core.List.{List, [], ◌∷◌, ◌++◌, append-nil}
use mathlib.Core.Logic.{by_cases}
use native.Mathlib.Decide.{dec_lt}
use native.Mathlib.Omega.{arith}
use lib.ListN.{length, get_or, take, drop, replicate, get_or-replicate, length-drop, take-append-drop, get_or-eq_default}
use lib.Seq.{take-suc, take_all, get_or-drop, drop-drop}
use Rattle.model.specs.Sets.{Lines}
use Rattle.model.specs.Task.{Task, block_count, no_block}
use Rattle.model.specs.Lines.{line_of, is_line, on_line, first_read, any_read, reads_of, block_at, next_read, accessed}
use Rattle.model.specs.Regions.{union_after}
use Rattle.model.specs.declared.Line.{Line}
use Rattle.model.specs.declared.Line.TheVariants.{Empty, Held}
use Rattle.model.proofs.LineStates.{any_append, first-append}
use Rattle.model.proofs.ReadOrder.{reads-append}
use Rattle.model.proofs.Loads.{union-reads}
use Rattle.reuse.specs.FirstReads.{is_read, or_then, Noted}

-- no line is read yet
pub none_read : (c : ℕ) → get_or (replicate 512 Empty) c Empty ≡ Empty
none_read c = by_cases (dec_lt c 512) (λ h. get_or-replicate 512 c Empty Empty h) (λ h. get_or-eq_default (replicate 512 Empty) Empty {n = c} (omega arith))

-- some read is on the line if the first is
read-any : (on : ℕ → Bool) (xs : List ℕ) → any_read on xs ≡ is_read (first_read on xs)
unfolding any_read first_read
read-any on [] = refl
read-any on (x ∷ xs) = go (on x) (read-any on xs)
  where
    go : (b : Bool) → any_read on xs ≡ is_read (first_read on xs) → (b || any_read on xs) ≡ is_read (cond b (Held x) (first_read on xs))
    go true e = refl
    go false e = e

module _ (t : Task) where
  -- no read
  pub noted-none : {first : List Line} {lines : Lines} → length first ≡ 512 → ((c : ℕ) → lines c ≡ false) → Noted t [] first first lines
  unfolding any_read first_read
  noted-none {first} long none =
      record { long = long; first-is = λ c. go (get_or first c Empty); lines_are = λ c. none c ∙ sym (and-false (not (is_read (get_or first c Empty)))) }
    where
      go : (l : Line) → l ≡ or_then l Empty
      go Empty = refl
      go (Held n) = refl

  -- one read, of m: it is noted on its line if that was not read before
  pub noted_one : {first₀ first : List Line} (m : ℕ) (mapping : Option ℕ) → mapping ≡ line_of t m → length first ≡ 512
      → ((c : ℕ) → get_or first c Empty ≡ cond (not (is_read (get_or first₀ c Empty)) && is_line c mapping) (Held m) (get_or first₀ c Empty))
      → Noted t (m ∷ []) first₀ first (λ c. not (is_read (get_or first₀ c Empty)) && is_line c mapping)
  unfolding any_read first_read on_line
  noted_one {first₀} m mapping e long noted =
      record { long = long; first-is = λ c. noted c ∙ rw (← e) (go (get_or first₀ c Empty) (is_line c mapping)); lines_are = λ c. rw (e, or-false) refl }
    where
      go : (l : Line) (on : Bool) → cond (not (is_read l) && on) (Held m) l ≡ or_then l (cond on (Held m) Empty)
      go Empty true = refl
      go Empty false = refl
      go (Held n) on = refl

  -- some reads, and others after them
  pub noted-append : {first₀ first₁ first₂ : List Line} {lines₁ lines₂ lines : Lines} (xs ys : List ℕ)
      → ((c : ℕ) → lines c ≡ (lines₁ c || lines₂ c)) → Noted t xs first₀ first₁ lines₁ → Noted t ys first₁ first₂ lines₂
      → Noted t (xs ++ ys) first₀ first₂ lines
  noted-append {first₀ = first₀} xs ys both v w =
      record {
        long = w.long;
        first-is =
            λ c.
            w.first-is c ∙
            rw (v.first-is c, first-append (on_line t c) xs ys, read-any (on_line t c) xs)
            (one (get_or first₀ c Empty) (first_read (on_line t c) xs) (first_read (on_line t c) ys));
        lines_are =
            λ c.
            both c ∙
            rw (v.lines_are c, w.lines_are c, v.first-is c, any_append (on_line t c) xs ys, read-any (on_line t c) xs)
            (two (get_or first₀ c Empty) (first_read (on_line t c) xs) (any_read (on_line t c) ys));
      }
    where
      one : (l f g : Line) → or_then (or_then l f) g ≡ or_then l (cond (is_read f) f g)
      one Empty Empty g = refl
      one Empty (Held n) g = refl
      one (Held n) f g = refl

      two : (l f : Line) (b : Bool) → (not (is_read l) && is_read f || not (is_read (or_then l f)) && b) ≡ (not (is_read l) && (is_read f || b))
      two Empty Empty b = refl
      two Empty (Held n) b = refl
      two (Held n) f b = refl

  -- the reads of the blocks after edge a, one block more
  pub block_more : (a k : ℕ) → a ≤ k → k < block_count t
      → reads_of (take (k + 1 - a) (drop a t.blocks)) ≡ reads_of (take (k - a) (drop a t.blocks)) ++ (block_at t k).reads
  unfolding reads_of block_at
  block_more a k h l =
      let next : k + 1 - a ≡ suc (k - a) = omega arith in
      let there : a + (k - a) ≡ k = omega arith in
      rw (
        next,
        take-suc (drop a t.blocks) (k - a) no_block (omega (arith, length-drop a t.blocks)),
        reads-append,
        get_or-drop,
        there,
        append-nil,
      ) refl

  -- the reads after edge a are those up to edge b and those after it
  module _ (a b : ℕ) (l : a ≤ b) (h : b ≤ block_count t) where
    halves : reads_of (take (b - a) (drop a t.blocks)) ++ reads_of (take (block_count t - b) (drop b t.blocks)) ≡ reads_of (drop a t.blocks)
    halves =
        let there : a + (b - a) ≡ b = omega arith in
        sym (reads-append (take (b - a) (drop a t.blocks)) _) ∙
        ap reads_of
        (rw (take_all (block_count t - b) (drop b t.blocks) (omega (arith, length-drop b t.blocks)), ← there, ← (drop-drop (b - a) a t.blocks), there)
        (take-append-drop (b - a) (drop a t.blocks)))

    -- what is noted of them all is each line's next read
    pub next-noted : {first₁ first₂ : List Line} {lines₁ lines₂ : Lines}
        → Noted t (reads_of (take (b - a) (drop a t.blocks))) (replicate 512 Empty) first₁ lines₁
        → Noted t (reads_of (take (block_count t - b) (drop b t.blocks))) first₁ first₂ lines₂
        → (c : ℕ) → get_or first₂ c Empty ≡ next_read t a c
    unfolding next_read
    next-noted {lines₁ = lines₁} {lines₂ = lines₂} v w c =
        (noted-append {lines = λ d. lines₁ d || lines₂ d} _ _ (λ d. refl) v w).first-is c ∙ rw (none_read c, halves) refl

    -- and the lines noted up to edge b are those that the blocks up to it read
    pub union-noted : {first₁ : List Line} {lines₁ : Lines}
        → Noted t (reads_of (take (b - a) (drop a t.blocks))) (replicate 512 Empty) first₁ lines₁
        → (c : ℕ) → lines₁ c ≡ union_after (accessed t) a (b - a) c
    union-noted v c = v.lines_are c ∙ rw (none_read c) (sym (union-reads t a (b - a) c (omega arith)))
