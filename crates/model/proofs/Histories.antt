-- What a walk over a task's reads keeps of the lines: what each of them holds after the reads
-- passed, and the block that read it last. A walk keeps this in arrays of its own, and each read
-- is one step of it. For a line that holds nothing the block may be any number. A read names one
-- line and whether it lies on it: a read that bypasses the cache changes nothing there.
-- Assumes nothing.
use Rattle.std.specs.Prelude.{None, Some}
use Prim.Native.Nat.{ℕ, suc, ◌+◌, ◌≤◌, ◌<◌}
use mathlib.Core.Path.{◌≡◌, refl, sym, ap, ◌∙◌}
use mathlib.Core.Bool.{Bool, true, false, cond, ◌&&◌, ◌||◌, and-true, and-false, or-false, or-true}
use mathlib.Core.Logic.{by_cases}
use mathlib.Core.List.{List, [], ◌∷◌, ◌++◌}
use native.Mathlib.Omega.{arith}
use native.Mathlib.Decide.{ℕ_discrete, dec_lt}
use lib.Dec.{eqb, ltb}
use lib.ListN.{length, get_or, take, drop, length-take, drop_of_length-le, take-append-drop}
use lib.Seq.{take-suc, take-take, drop-append-le, drop-nil}
use borrow.Author.Tests.{eq-eqb, ne_eqb, lt-ltb, le-ltb}
use Rattle.model.specs.Task.{Task, block_count}
use Rattle.model.specs.Lines.{line_of, on_line, last_read, any_read, block_at}
use Rattle.model.specs.declared.Line.{Line}
use Rattle.model.specs.declared.Line.TheVariants.{Empty, Held}
use Rattle.model.proofs.LineStates.{last-append, last-take, last-unread, any_append, lies-on, lies-nowhere}
use Rattle.model.proofs.ReadOrder.{all_reads, edge, edge-rises, edge-end, edge-suc, read_at}

-- the first p reads of a task, and those of them after edge k
abbrev pub reads_before : Task → ℕ → List ℕ
reads_before t p = take p (all_reads t)

abbrev pub reads_since : Task → ℕ → ℕ → List ℕ
reads_since t k p = drop (edge t k) (reads_before t p)

-- a line that holds a number
abbrev pub is_held : Line → Bool
is_held Empty = false
is_held (Held m) = true

-- what each line holds after p reads
abbrev pub Holds : Task → ℕ → (ℕ → Line) → Type 0
Holds t p held = (c : ℕ) → c < 512 → held c ≡ last_read (on_line t c) Empty (reads_before t p)

-- and each line that holds a number was read last in the block that since tells: it was read since edge k if that block comes after k
pub record History (t : Task) (p : ℕ) (held : ℕ → Line) (since : ℕ → ℕ) : Type 0 where
  pub holds : Holds t p held
  pub last : (c : ℕ) → c < 512 → (k : ℕ) → any_read (on_line t c) (reads_since t k p) ≡ (is_held (held c) && ltb k (since c))

-- memory block m lies on this line if `on`, and on no other
abbrev pub LiesOn : Task → ℕ → ℕ → Bool → Type 0
LiesOn t m line on = (d : ℕ) → on_line t d m ≡ (eqb d line && on)

pub lies-cached : (t : Task) (m line : ℕ) → line_of t m ≡ Some line → LiesOn t m line true
lies-cached t m line e d = lies-on t m line e d ∙ sym (and-true (eqb d line))

pub lies-uncached : (t : Task) (m : ℕ) → line_of t m ≡ None → LiesOn t m 0 false
lies-uncached t m e d = lies-nowhere t m e d ∙ sym (and-false (eqb d 0))

-- before the first read
pub holds-none : (t : Task) {held : ℕ → Line} → ((c : ℕ) → c < 512 → held c ≡ Empty) → Holds t 0 held
unfolding last_read
holds-none t none = none

pub history-none : (t : Task) {held : ℕ → Line} (since : ℕ → ℕ) → ((c : ℕ) → c < 512 → held c ≡ Empty) → History t 0 held since
unfolding any_read
history-none t since none = record { holds = holds-none t none; last = λ c h k. rw (drop-nil, none c h) refl }

-- read j of block i + 1, of number m
module _ (t : Task) (i j m : ℕ) (hi : i < block_count t) (hj : j < length (block_at t i).reads) (is : get_or (block_at t i).reads j 0 ≡ m) where
  inside : edge t i + j < length (all_reads t)
  inside = omega (arith, edge-rises t (suc i) (block_count t) hi, edge-suc t i hi, edge-end t)

  pub before_more : reads_before t (suc (edge t i + j)) ≡ reads_before t (edge t i + j) ++ (m ∷ [])
  before_more =
      take-suc (all_reads t) (edge t i + j) 0 inside ∙ ap (λ (x : ℕ). reads_before t (edge t i + j) ++ (x ∷ [])) (read_at t i j hi hj ∙ is)

  -- it comes after the edges up to i, and before the others
  pub one_more : (k : ℕ) → k ≤ i → reads_since t k (suc (edge t i + j)) ≡ reads_since t k (edge t i + j) ++ (m ∷ [])
  one_more k h =
      ap (drop (edge t k)) before_more ∙
      drop-append-le (edge t k) (reads_before t (edge t i + j)) (m ∷ []) (omega (arith, length-take (edge t i + j) (all_reads t), inside, edge-rises t k i h))

  none_yet : (k p : ℕ) → i < k → p ≤ suc (edge t i + j) → reads_since t k p ≡ []
  none_yet k p h l =
      drop_of_length-le (reads_before t p) {i = edge t k} (omega (arith, length-take p (all_reads t), edge-rises t (suc i) k h, edge-suc t i hi))

  any-more : (c k : ℕ) → k ≤ i → any_read (on_line t c) (reads_since t k (suc (edge t i + j))) ≡ (any_read (on_line t c) (reads_since t k (edge t i + j)) || on_line t c m)
  unfolding any_read
  any-more c k h =
      ap (any_read (on_line t c)) (one_more k h) ∙ any_append (on_line t c) (reads_since t k (edge t i + j)) (m ∷ []) ∙
      ap (λ (b : Bool). any_read (on_line t c) (reads_since t k (edge t i + j)) || b) (or-false (on_line t c m))

  state-more : (c : ℕ) → last_read (on_line t c) Empty (reads_before t (suc (edge t i + j)))
      ≡ cond (on_line t c m) (Held m) (last_read (on_line t c) Empty (reads_before t (edge t i + j)))
  state-more c = last-take (on_line t c) Empty (all_reads t) (edge t i + j) m inside (read_at t i j hi hj ∙ is)

  -- a line on which it does not lie
  any_same : (c k : ℕ) → on_line t c m ≡ false → any_read (on_line t c) (reads_since t k (suc (edge t i + j))) ≡ any_read (on_line t c) (reads_since t k (edge t i + j))
  any_same c k off =
      by_cases (dec_lt i k)
      (λ h. ap (any_read (on_line t c)) (none_yet k (suc (edge t i + j)) h (omega arith) ∙ sym (none_yet k (edge t i + j) h (omega arith))))
      (λ h. any-more c k (omega arith) ∙ rw off (or-false _))

  -- it lies on this line, or on none
  module _ (line : ℕ) (on : Bool) (at : LiesOn t m line on) where
    not_there : (d : ℕ) → (d ≡ line → ⊥) → on_line t d m ≡ false
    not_there d n = at d ∙ rw (ne_eqb d line n) refl

    there-if : on_line t line m ≡ on
    there-if = at line ∙ rw (eq-eqb line line refl) refl

    -- if it lies on the line, the line then holds it
    pub holds_more : {held held' : ℕ → Line} → held' line ≡ cond on (Held m) (held line) → ((d : ℕ) → (d ≡ line → ⊥) → held' d ≡ held d)
        → Holds t (edge t i + j) held → Holds t (suc (edge t i + j)) held'
    holds_more here there h c l =
        by_cases (ℕ_discrete c line)
        (λ e. rw e (here ∙ ap (cond on (Held m)) (h line (omega arith)) ∙ sym (state-more line ∙ rw there-if refl)))
        (λ n. there c n ∙ h c l ∙ sym (state-more c ∙ rw (not_there c n) refl))

    -- and block i + 1 has read it last
    pub history-more : {held held' : ℕ → Line} {since since' : ℕ → ℕ} → held' line ≡ cond on (Held m) (held line) → since' line ≡ cond on (suc i) (since line)
        → ((d : ℕ) → (d ≡ line → ⊥) → (held' d ≡ held d) × (since' d ≡ since d)) → History t (edge t i + j) held since → History t (suc (edge t i + j)) held' since'
    unfolding any_read
    history-more {held} {held'} {since} {since'} holds-now read-now others h =
        record {
          holds = holds_more holds-now (λ d n. (others d n).0) h.holds;
          last =
              λ c l k.
              by_cases (ℕ_discrete c line) (λ e. rw (e, holds-now, read-now) (on-it on there-if k (omega arith)))
              (λ n. any_same c k (not_there c n) ∙ rw ((others c n).0, (others c n).1) (h.last c l k));
        }
      where
        on-it : (b : Bool) → on_line t line m ≡ b → (k : ℕ) → line < 512
            → any_read (on_line t line) (reads_since t k (suc (edge t i + j))) ≡ (is_held (cond b (Held m) (held line)) && ltb k (cond b (suc i) (since line)))
        on-it true e k l =
            by_cases (dec_lt i k) (λ o. ap (any_read (on_line t line)) (none_yet k (suc (edge t i + j)) o (omega arith)) ∙ sym (le-ltb k (suc i) (omega arith)))
            (λ o. any-more line k (omega arith) ∙ rw (e, or-true, lt-ltb k (suc i) (omega arith)) refl)
        on-it false e k l = any_same line k e ∙ h.last line l k

-- a line on which no read lies since edge k holds what it held there
pub state-from : (t : Task) (c k p : ℕ) → edge t k ≤ p → any_read (on_line t c) (reads_since t k p) ≡ false
    → last_read (on_line t c) Empty (reads_before t p) ≡ last_read (on_line t c) Empty (reads_before t (edge t k))
state-from t c k p h unread =
    ap (last_read (on_line t c) Empty) (sym (take-append-drop (edge t k) (reads_before t p))) ∙ last-append (on_line t c) Empty (take (edge t k) (reads_before t p)) _ ∙
    last-unread (on_line t c) _ (reads_since t k p) unread ∙ ap (last_read (on_line t c) Empty) (take-take (edge t k) p (all_reads t) h)
