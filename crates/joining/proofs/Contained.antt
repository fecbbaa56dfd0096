-- What is useful in a task is useful at the same edge of a joined one: there the line is read later too, and what it held before is overwritten.
-- Assumes nothing.
use Prim.Native.Nat.{ℕ, ◌+◌, ◌≤◌}
use mathlib.Core.Path.{◌≡◌, refl, sym, ◌∙◌, fun_ext}
use mathlib.Core.Logic.{by_cases}
use mathlib.Core.Bool.{Bool, true, false, cond, ◌||◌, true≢false, false≢true}
use mathlib.Core.List.{List, [], ◌∷◌, ◌++◌}
use native.Mathlib.Decide.{dec_le}
use native.Mathlib.Omega.{arith}
use lib.ListN.{take, drop, drop_of_length-le}
use lib.Seq.{take-append-le, drop-append-le, take-append-add, drop-append-add}
use Rattle.model.specs.Task.{Task, block_count}
use Rattle.model.specs.Lines.{bypasses, line_of, on_line, last_read, first_read, any_read, same_block, reads_of, state_after, next_read, useful}
use Rattle.model.specs.declared.Line.{Line}
use Rattle.model.specs.declared.Line.TheVariants.{Empty, Held}
use Rattle.model.proofs.LineStates.{last-append, first-append, last-unread, first-none, never-empty, holds-none}
use Rattle.model.proofs.ReadOrder.{reads-append}
use Rattle.joining.specs.Joining.{joined_header, joined}
use Rattle.joining.proofs.Tasks.{Agreeing}

module _ (on : ℕ → Bool) where
  -- a line that is read among xs holds then what it would hold in an empty cache
  last-read-any : (l : Line) (xs : List ℕ) → any_read on xs ≡ true → last_read on l xs ≡ last_read on Empty xs
  unfolding last_read any_read
  last-read-any l [] h = absurd (true≢false (sym h))
  last-read-any l (x ∷ xs) h = go (on x) h (last-read-any l xs)
    where
      go : (b : Bool) → (b || any_read on xs) ≡ true → (any_read on xs ≡ true → last_read on l xs ≡ last_read on Empty xs)
          → last_read on (cond b (Held x) l) xs ≡ last_read on (cond b (Held x) Empty) xs
      go true h rest = refl
      go false h rest = rest h

  -- a line that holds after xs what is read next in ys does so with more reads behind ys
  later-reads : (xs ys zs : List ℕ) → same_block (last_read on Empty xs) (first_read on ys) ≡ true → same_block (last_read on Empty xs) (first_read on (ys ++ zs)) ≡ true
  later-reads xs ys zs h = rw (first-append on ys zs) (go (any_read on ys) refl)
    where
      go : (b : Bool) → any_read on ys ≡ b → same_block (last_read on Empty xs) (cond b (first_read on ys) (first_read on zs)) ≡ true
      go true e = h
      go false e = absurd (false≢true (sym (never-empty (last_read on Empty xs)) ∙ rw (first-none on ys e) at h))

  -- and with more before xs
  earlier-reads : (ws xs ys : List ℕ) → same_block (last_read on Empty xs) (first_read on ys) ≡ true → same_block (last_read on Empty (ws ++ xs)) (first_read on ys) ≡ true
  earlier-reads ws xs ys h = rw (last-append on Empty ws xs) (go (any_read on xs) refl)
    where
      go : (b : Bool) → any_read on xs ≡ b → same_block (last_read on (last_read on Empty ws) xs) (first_read on ys) ≡ true
      go true e = rw (last-read-any (last_read on Empty ws) xs e) h
      go false e = absurd (false≢true (sym (holds-none (first_read on ys)) ∙ rw (last-unread on Empty xs e) at h))

-- the first task: its reads come before those of the second
module _ (t u : Task) (k c : ℕ) where
  on-first : on_line (joined t u) c ≡ on_line t c
  unfolding joined joined_header on_line line_of bypasses
  on-first = refl

  useful-within : useful t k c ≡ true → k ≤ block_count t
  unfolding useful next_read reads_of first_read
  useful-within h =
      by_cases (dec_le k (block_count t)) (λ l. l)
      (λ no. absurd (false≢true (sym (never-empty (state_after t k c)) ∙ rw (drop_of_length-le t.blocks {i = k} (omega arith)) at h)))

  pub useful-first : useful t k c ≡ true → useful (joined t u) k c ≡ true
  unfolding useful state_after next_read joined
  useful-first h =
      let l = useful-within h in
      rw (on-first, take-append-le k t.blocks u.blocks l, drop-append-le k t.blocks u.blocks l, reads-append (drop k t.blocks) u.blocks)
      (later-reads (on_line t c) (reads_of (take k t.blocks)) (reads_of (drop k t.blocks)) (reads_of u.blocks) h)

  -- the second: they come after those of the first, in the same cache
  on-second : Agreeing t u → on_line (joined t u) c ≡ on_line u c
  unfolding joined joined_header on_line line_of bypasses
  on-second a = fun_ext (λ m. rw (a.lines, a.ranges))

  pub useful-second : Agreeing t u → useful u k c ≡ true → useful (joined t u) (block_count t + k) c ≡ true
  unfolding useful state_after next_read joined
  useful-second a h =
      rw (on-second a, take-append-add t.blocks u.blocks k, drop-append-add t.blocks u.blocks k, reads-append t.blocks (take k u.blocks))
      (earlier-reads (on_line u c) (reads_of t.blocks) (reads_of (take k u.blocks)) (reads_of (drop k u.blocks)) h)
