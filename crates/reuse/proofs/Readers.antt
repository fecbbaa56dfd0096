-- The first blocks that read the lines, as they are noted block after block. A search from the edge
-- before a line's first reader finds the line's next read. Assumes nothing.
use Prim.Native.Nat.{ℕ, zero, suc, ◌+◌, ◌-◌, ◌≤◌, ◌<◌}
use mathlib.Core.Path.{◌≡◌, refl, sym, ap, ◌∙◌}
use mathlib.Core.Bool.{Bool, true, false, cond, ◌&&◌, ◌||◌}
use mathlib.Core.List.{List}
use native.Mathlib.Nat.{add-zero, add-suc, le_refl}
use native.Mathlib.Numerals.{add-one}
use native.Mathlib.Omega.{arith}
use lib.Dec.{eqb}
use lib.ListN.{length, get_or, drop}
use borrow.Author.Tests.{ne_eqb}
use Rattle.model.specs.Task.{Task, block_count}
use Rattle.model.specs.Lines.{on_line, first_read, any_read, same_block, reads_of, block_at, state_after, next_read, useful, accessed}
use Rattle.model.specs.declared.Line.TheVariants.{Empty, Held}
use Rattle.model.proofs.LineStates.{first-append, holds-none}
use Rattle.model.proofs.ReadOrder.{reads-from}
use Rattle.reuse.specs.States.{first_reader, edge_before, FirstReaders, FirstBy, NotedTo, Settled}

module _ (t : Task) (c : ℕ) where
  -- one block more, behind the others
  reader-more : (k n : ℕ) → first_reader t k (suc n) c ≡ cond (eqb (first_reader t k n c) 0 && accessed t (suc (k + n)) c) (suc (k + n)) (first_reader t k n c)
  unfolding first_reader
  reader-more k zero = rw (add-zero k) refl
  reader-more k (suc n) =
      let next : suc k + n ≡ suc (k + n) = omega arith in
      rw (add-suc k n) (go (accessed t (suc k) c) (first_reader t (suc k) n c) (accessed t (suc (suc (k + n))) c) (rw next at (reader-more (suc k) n)))
    where
      go : (b : Bool) {x : ℕ} (y : ℕ) (q : Bool) → x ≡ cond (eqb y 0 && q) (suc (suc (k + n))) y
          → cond b (suc k) x ≡ cond (eqb (cond b (suc k) y) 0 && q) (suc (suc (k + n))) (cond b (suc k) y)
      go true y q e = rw (ne_eqb (suc k) 0 (λ z. omega arith)) refl
      go false y q e = e

  reader-within : (k n : ℕ) → first_reader t k n c ≤ k + n
  unfolding first_reader
  reader-within k zero = omega arith
  reader-within k (suc n) = go (accessed t (suc k) c) (reader-within (suc k) n)
    where
      go : (b : Bool) {x : ℕ} → x ≤ suc k + n → cond b (suc k) x ≤ k + suc n
      go true h = omega arith
      go false h = omega arith

  -- a block that does not read the line is passed by its next read
  passes : (k : ℕ) → k < block_count t → accessed t (suc k) c ≡ false → next_read t (suc k) c ≡ next_read t k c
  unfolding next_read accessed
  passes k h off =
      sym (ap (first_read (on_line t c)) (reads-from t k h) ∙ first-append (on_line t c) (block_at t k).reads (reads_of (drop (suc k) t.blocks)) ∙ rw off refl)

  -- a search from the edge before that block finds what a search from edge k finds, if there is
  -- such a block or no block is left
  reader-next : (k n : ℕ) → k + n ≤ block_count t → (first_reader t k n c ≡ 0 → k + n ≡ block_count t)
      → next_read t (edge_before (block_count t) (first_reader t k n c)) c ≡ next_read t k c
  unfolding first_reader edge_before
  reader-next k zero h all = let end : block_count t ≡ k = omega (arith, all refl) in rw end refl
  reader-next k (suc n) h all =
      go (accessed t (suc k) c) (first_reader t (suc k) n c) (λ e. reader-next (suc k) n (omega arith) (λ z. omega (arith, all (rw e z))) ∙ passes k (omega arith) e)
    where
      go : (b : Bool) (x : ℕ) → (b ≡ false → next_read t (edge_before (block_count t) x) c ≡ next_read t k c)
          → next_read t (edge_before (block_count t) (cond b (suc k) x)) c ≡ next_read t k c
      go true x f = refl
      go false x f = f refl

  -- so a search from there decides whether a line is useful
  module _ {k b : ℕ} (readers : List ℕ) (from : k ≤ b) (to : b ≤ block_count t) (below : c < 512) (are : FirstReaders t k b readers) where
    noted-within : get_or readers c 0 ≤ block_count t
    noted-within = rw (are c below) (omega (arith, reader-within k (b - k)))

    pub edge-within : edge_before (block_count t) (get_or readers c 0) ≤ block_count t
    unfolding edge_before
    edge-within = go (get_or readers c 0) noted-within
      where
        go : (r : ℕ) → r ≤ block_count t → edge_before (block_count t) r ≤ block_count t
        go zero h = le_refl (block_count t)
        go (suc i) h = omega arith

    noted-next : Settled t b readers c → next_read t (edge_before (block_count t) (get_or readers c 0)) c ≡ next_read t k c
    noted-next settled = rw (are c below) (reader-next k (b - k) (omega arith) (λ z. omega (arith, settled (are c below ∙ z))))

    pub noted-useful : (number : ℕ) → Held number ≡ state_after t k c → Settled t b readers c
        → same_block (Held number) (next_read t (edge_before (block_count t) (get_or readers c 0)) c) ≡ useful t k c
    unfolding useful
    noted-useful number is settled = rw (← is) (ap (same_block (Held number)) (noted-next settled))

-- an empty line is not
pub empty-useless : (t : Task) (k c : ℕ) → Empty ≡ state_after t k c → useful t k c ≡ false
unfolding useful
empty-useless t k c is = rw (← is) (holds-none (next_read t k c))

-- the readers of one block more
pub noted_more : (t : Task) (i : ℕ) {b : ℕ} {before after after' : List ℕ} → NotedTo t b i before after → i < block_count t → length after' ≡ 512
    → FirstBy (λ d. any_read (on_line t d) (block_at t i).reads) (i + 1) after after' → NotedTo t b (i + 1) before after'
unfolding accessed
noted_more t i v l long by =
    record {
      long = long;
      from = omega (arith, v.from);
      to = omega arith;
      noted =
          λ k h w c below.
          let there : k + (i - k) ≡ i = omega (arith, v.from) in
          let next : i + 1 - k ≡ suc (i - k) = omega (arith, v.from) in
          by c below ∙ rw (v.noted k h w c below, next, reader-more t c k (i - k), there, add-one) refl;
    }

-- some reads of a block, and others after them
pub first-by-both : (a b : Bool) (n x : ℕ) → cond (eqb (cond (eqb x 0 && a) n x) 0 && b) n (cond (eqb x 0 && a) n x) ≡ cond (eqb x 0 && (a || b)) n x
first-by-both a b n x = go (eqb x 0) refl a b
  where
    go : (e : Bool) → eqb x 0 ≡ e → (a b : Bool) → cond (eqb (cond (e && a) n x) 0 && b) n (cond (e && a) n x) ≡ cond (e && (a || b)) n x
    go false h a b = rw h refl
    go true h true b = same (eqb n 0 && b)
      where
        same : (q : Bool) → cond q n n ≡ n
        same true = refl
        same false = refl
    go true h false b = rw h refl
