-- Laws of a line's state and its next read over a list of reads that grows at its end.
-- Assumes nothing.
use Rattle.std.specs.Prelude.{None, Some}
use Prim.Native.Nat.{ℕ, suc, ◌+◌, ◌%◌, ◌≤◌, ◌<◌}
use native.Mathlib.Nat.{mod-lt}
use native.Mathlib.Numerals.{add-one}
use native.Mathlib.Omega.{arith}
use lib.Dec.{eqb, leb, ltb}
use lib.ListN.{length, get_or, take, drop}
use lib.Seq.{take-suc, drop-length}
use borrow.Author.Tests.{ne_eqb, le-ltb, leb-true}
use mathlib.Core.Path.{◌≡◌, refl, sym, ap, ◌∙◌, fun_ext}
use mathlib.Core.Bool.{Bool, true, false, cond, ◌&&◌, ◌||◌, or_assoc, or-false, true≢false}
use mathlib.Core.List.{List, [], ◌∷◌, ◌++◌}
use Rattle.model.specs.Task.{Task, block_count, line_count}
use Rattle.model.specs.Lines.{bypasses, line_of, is_line, on_line, last_read, first_read, any_read, same_block, reads_of, preempter_reads, state_after, next_read, reads_looked_at, useful, accessed, evicted}
use Rattle.model.specs.Replay.{miss, fetch}
use Rattle.model.specs.Laws.{EmptyNotUseful, UsefulStart, UsefulEnd, on_remainder, NoScratch}
use Rattle.model.specs.declared.Line.{Line}
use Rattle.model.specs.declared.Line.TheVariants.{Empty, Held}

neither : (a b : Bool) → (a || b) ≡ false → (a ≡ false) × (b ≡ false)
neither true b h = absurd (true≢false h)
neither false b h = (refl, h)

module _ (on : ℕ → Bool) where
  pub last-append : (l : Line) (xs ys : List ℕ) → last_read on l (xs ++ ys) ≡ last_read on (last_read on l xs) ys
  unfolding last_read
  last-append l [] ys = refl
  last-append l (x ∷ xs) ys = last-append (cond (on x) (Held x) l) xs ys

  pub any_append : (xs ys : List ℕ) → any_read on (xs ++ ys) ≡ (any_read on xs || any_read on ys)
  unfolding any_read
  any_append [] ys = refl
  any_append (x ∷ xs) ys = ap (λ (b : Bool). on x || b) (any_append xs ys) ∙ sym (or_assoc (on x) (any_read on xs) (any_read on ys))

  -- no read lies on the line: its state stays, and none is the next
  pub last-unread : (l : Line) (xs : List ℕ) → any_read on xs ≡ false → last_read on l xs ≡ l
  unfolding last_read any_read
  last-unread l [] h = refl
  last-unread l (x ∷ xs) h =
      let two = neither (on x) (any_read on xs) h in
      rw two.0 (last-unread l xs two.1)

  pub first-none : (xs : List ℕ) → any_read on xs ≡ false → first_read on xs ≡ Empty
  unfolding first_read any_read
  first-none [] h = refl
  first-none (x ∷ xs) h =
      let two = neither (on x) (any_read on xs) h in
      rw two.0 (first-none xs two.1)

  -- what is read next is among the earlier reads if one of them lies on the line
  pub first-append : (xs ys : List ℕ) → first_read on (xs ++ ys) ≡ cond (any_read on xs) (first_read on xs) (first_read on ys)
  unfolding first_read any_read
  first-append [] ys = refl
  first-append (x ∷ xs) ys = go (on x) (first-append xs ys)
    where
      go : (b : Bool) → first_read on (xs ++ ys) ≡ cond (any_read on xs) (first_read on xs) (first_read on ys)
          → cond b (Held x) (first_read on (xs ++ ys)) ≡ cond (b || any_read on xs) (cond b (Held x) (first_read on xs)) (first_read on ys)
      go true e = refl
      go false e = e

  -- one read more
  pub last-take : (l : Line) (xs : List ℕ) (j m : ℕ) → j < length xs → get_or xs j 0 ≡ m
      → last_read on l (take (suc j) xs) ≡ cond (on m) (Held m) (last_read on l (take j xs))
  unfolding last_read
  last-take l xs j m h e =
      ap (last_read on l) (take-suc xs j 0 h ∙ ap (λ (x : ℕ). take j xs ++ (x ∷ [])) e) ∙ last-append l (take j xs) (m ∷ [])

  pub any-take : (xs : List ℕ) (j : ℕ) → j < length xs → any_read on (take (j + 1) xs) ≡ (any_read on (take j xs) || on (get_or xs j 0))
  unfolding any_read
  any-take xs j h =
      rw (add-one j, take-suc xs j 0 h) (any_append (take j xs) (get_or xs j 0 ∷ []))
      ∙ ap (λ (b : Bool). any_read on (take j xs) || b) (or-false (on (get_or xs j 0)))

-- a memory block lies on the line that its mapping names and on no other, or on none
module _ (t : Task) (m : ℕ) where
  pub lies-on : (line : ℕ) → line_of t m ≡ Some line → (c : ℕ) → on_line t c m ≡ eqb c line
  unfolding on_line
  lies-on line e c = ap (is_line c) e

  pub lies-nowhere : line_of t m ≡ None → (c : ℕ) → on_line t c m ≡ false
  unfolding on_line
  lies-nowhere e c = ap (is_line c) e

module _ (t : Task) (e : t.header.scratch.count ≡ 0) where
  pub none-bypasses : (m : ℕ) → bypasses t m ≡ false
  unfolding bypasses
  none-bypasses m = rw e (outside (leb t.header.scratch.first m) refl)
    where
      outside : (b : Bool) → leb t.header.scratch.first m ≡ b → (b && ltb m (t.header.scratch.first + 0)) ≡ false
      outside true h = le-ltb m (t.header.scratch.first + 0) (omega (arith, leb-true t.header.scratch.first m h))
      outside false h = refl

  remainder-line : (m : ℕ) → line_of t m ≡ Some (m % line_count t)
  unfolding line_of
  remainder-line m = rw (none-bypasses m) refl

  on-remainder : (c : ℕ) → on_line t c ≡ on_remainder t c
  unfolding on_line
  on-remainder c = fun_ext (λ m. ap (is_line c) (remainder-line m))

pub no-scratch : NoScratch
unfolding state_after next_read reads_looked_at accessed evicted miss fetch
no-scratch t e =
    let on = on-remainder t e in
    record {
      line = remainder-line t e;
      state = λ k c. rw (on c);
      next = λ k c. rw (on c);
      looked = λ k c. rw (on c);
      accesses = λ i c. rw (on c);
      evicts = λ c. rw (on c);
      misses = λ s m. rw (remainder-line t e m);
      loads = λ s m c. rw (on c);
    }

pub never-empty : (l : Line) → same_block l Empty ≡ false
never-empty Empty = refl
never-empty (Held n) = refl

pub holds-none : (l : Line) → same_block Empty l ≡ false
holds-none Empty = refl
holds-none (Held n) = refl

pub empty-not-useful : EmptyNotUseful
unfolding useful
empty-not-useful t k c e = rw e (holds-none (next_read t k c))

-- nothing is held before the first read, and nothing is read after the last

pub useful-start : UsefulStart
unfolding state_after reads_of last_read
useful-start t c = empty-not-useful t 0 c refl

pub useful-end : UsefulEnd
unfolding useful next_read reads_of first_read
useful-end t c = rw (drop-length t.blocks) (never-empty (state_after t (block_count t) c))

-- no number lies on a line beyond the cache, so none is useful there
module _ (t : Task) (least : 1 ≤ line_count t) (c : ℕ) (beyond : line_count t ≤ c) where
  off-beyond : (m : ℕ) → on_line t c m ≡ false
  unfolding on_line line_of
  off-beyond m = go (bypasses t m)
    where
      go : (b : Bool) → is_line c (cond b None (Some (m % line_count t))) ≡ false
      go true = refl
      go false = ne_eqb c (m % line_count t) (λ e. omega (arith, mod-lt m least))

  pub unread-beyond : (xs : List ℕ) → any_read (on_line t c) xs ≡ false
  unfolding any_read
  unread-beyond [] = refl
  unread-beyond (x ∷ xs) = rw (off-beyond x) (unread-beyond xs)

  pub evicted-beyond : evicted t c ≡ false
  unfolding evicted
  evicted-beyond = unread-beyond (preempter_reads t.preempters)

  pub useful-beyond : (k : ℕ) → useful t k c ≡ false
  unfolding useful next_read
  useful-beyond k =
      ap (same_block (state_after t k c)) (first-none (on_line t c) (reads_of (drop k t.blocks)) (unread-beyond (reads_of (drop k t.blocks)))) ∙
      never-empty (state_after t k c)
