-- A search over reads in order: what is left of it once some reads are passed. The first read on the line among all is the first among those
-- left, and as many are looked at as were passed and are looked at there. Assumes nothing.
use Rattle.std.specs.Prelude.{None, Some}
use Prim.Native.Nat.{ℕ, suc, ◌+◌, ◌<◌}
use mathlib.Core.Path.{◌≡◌, refl, sym, ap, ◌∙◌}
use mathlib.Core.Bool.{Bool, true, false, cond}
use mathlib.Core.List.{List, [], ◌∷◌, ◌++◌}
use mathlib.Core.Logic.{by_cases}
use native.Mathlib.Decide.{ℕ_discrete}
use native.Mathlib.Nat.{zero-add}
use native.Mathlib.Numerals.{add-one}
use native.Mathlib.Omega.{arith}
use lib.Dec.{eqb}
use Rattle.std.specs.Option.{option_eq}
use lib.ListN.{length, get_or, drop}
use lib.Seq.{drop-cons}
use borrow.Author.Tests.{ne_eqb}
use Rattle.model.specs.Lines.{first_read, looked_at, same_block, as_next}
use Rattle.model.specs.declared.Line.{Line}
use Rattle.model.specs.declared.Line.TheVariants.{Empty, Held}

not-both : {m : ℕ} → Some m ≡ None → ⊥
not-both e = let z : ◌≡◌ {A = ℕ} 0 1 = cc in omega arith

-- what the search's answer says of a line that holds this number
pub next-same : (number : ℕ) (l : Line) → option_eq eqb (as_next l) (Some number) ≡ same_block (Held number) l
next-same number Empty = refl
next-same number (Held n) =
    by_cases (ℕ_discrete n number) (λ e. rw e refl) (λ k. ne_eqb n number k ∙ sym (ne_eqb number n (λ e. k (sym e))))

module _ (on : ℕ → Bool) where
  -- of all reads these are left, and so many were looked at
  pub record Left (all : List ℕ) (looked : ℕ) (rest : List ℕ) : Type 0 where
    pub next : first_read on all ≡ first_read on rest
    pub count : looked_at on all ≡ looked + looked_at on rest

  pub left-all : (all : List ℕ) → Left all 0 all
  left-all all = record { next = refl; count = sym (zero-add _) }

  -- some reads more, none of them on the line
  passed : (xs ys : List ℕ) → as_next (first_read on xs) ≡ None
      → (first_read on (xs ++ ys) ≡ first_read on ys) × (looked_at on (xs ++ ys) ≡ looked_at on xs + looked_at on ys)
  unfolding first_read looked_at
  passed [] ys h = (refl, sym (zero-add _))
  passed (x ∷ xs) ys h = go (on x) h (passed xs ys)
    where
      go : (b : Bool) → as_next (cond b (Held x) (first_read on xs)) ≡ None
          → (as_next (first_read on xs) ≡ None → (first_read on (xs ++ ys) ≡ first_read on ys) × (looked_at on (xs ++ ys) ≡ looked_at on xs + looked_at on ys))
          → (cond b (Held x) (first_read on (xs ++ ys)) ≡ first_read on ys)
          × (suc (cond b 0 (looked_at on (xs ++ ys))) ≡ suc (cond b 0 (looked_at on xs)) + looked_at on ys)
      go true e more = absurd (not-both e)
      go false e more = ((more e).0, omega (arith, (more e).1))

  -- some reads more, one of them on the line
  found : (xs ys : List ℕ) (m : ℕ) → as_next (first_read on xs) ≡ Some m
      → (as_next (first_read on (xs ++ ys)) ≡ Some m) × (looked_at on (xs ++ ys) ≡ looked_at on xs)
  unfolding first_read looked_at
  found [] ys m h = absurd (not-both (sym h))
  found (x ∷ xs) ys m h = go (on x) h (found xs ys m)
    where
      go : (b : Bool) → as_next (cond b (Held x) (first_read on xs)) ≡ Some m
          → (as_next (first_read on xs) ≡ Some m → (as_next (first_read on (xs ++ ys)) ≡ Some m) × (looked_at on (xs ++ ys) ≡ looked_at on xs))
          → (as_next (cond b (Held x) (first_read on (xs ++ ys))) ≡ Some m)
          × (suc (cond b 0 (looked_at on (xs ++ ys))) ≡ suc (cond b 0 (looked_at on xs)))
      go true e more = (e, refl)
      go false e more = ((more e).0, ap suc (more e).1)

  module _ {all rest : List ℕ} {looked : ℕ} (left : Left all looked rest) (xs ys : List ℕ) (e : rest ≡ xs ++ ys) where
    pub left_passed : as_next (first_read on xs) ≡ None → Left all (looked + looked_at on xs) ys
    left_passed n =
        record {
          next = left.next ∙ ap (first_read on) e ∙ (passed xs ys n).0;
          count = omega (arith, left.count, ap (looked_at on) e, (passed xs ys n).1);
        }

    pub left-found : (m : ℕ) → as_next (first_read on xs) ≡ Some m → (as_next (first_read on all) ≡ Some m) × (looked_at on all ≡ looked + looked_at on xs)
    left-found m n = (
      ap as_next (left.next ∙ ap (first_read on) e) ∙ (found xs ys m n).0,
      omega (arith, left.count, ap (looked_at on) e, (found xs ys m n).1),
    )

  -- one read more
  module _ {all : List ℕ} {looked : ℕ} (xs : List ℕ) (j m : ℕ) (inside : j < length xs) (is : m ≡ get_or xs j 0) (left : Left all looked (drop j xs)) where
    next_one : drop j xs ≡ (m ∷ []) ++ drop (j + 1) xs
    next_one = drop-cons xs j 0 inside ∙ rw (add-one j, is) refl

    looks-one : (b : Bool) → on m ≡ b → looked_at on (m ∷ []) ≡ 1
    unfolding looked_at
    looks-one true h = rw h refl
    looks-one false h = rw h refl

    pub left-off : on m ≡ false → Left all (looked + 1) (drop (j + 1) xs)
    unfolding first_read
    left-off h =
        let more = left_passed left (m ∷ []) (drop (j + 1) xs) next_one (rw h refl) in
        record { next = more.next; count = more.count ∙ rw (looks-one false h) refl }

    pub left-on : on m ≡ true → (as_next (first_read on all) ≡ Some m) × (looked_at on all ≡ looked + 1)
    unfolding first_read
    left-on h =
        let more = left-found left (m ∷ []) (drop (j + 1) xs) next_one m (rw h refl) in
        (more.0, more.1 ∙ rw (looks-one true h) refl)

  -- no read is left
  pub left-none : {all rest : List ℕ} {looked : ℕ} → rest ≡ [] → Left all looked rest → (as_next (first_read on all) ≡ None) × (looked_at on all ≡ looked)
  unfolding first_read looked_at
  left-none e l = (ap as_next (l.next ∙ ap (first_read on) e), omega (arith, l.count, ap (looked_at on) e))
