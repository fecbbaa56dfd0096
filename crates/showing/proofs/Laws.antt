-- A text is put piece by piece: what is left of it, from the place reached on, makes the output that the whole text makes.
-- Assumes nothing.
use Prim.Native.Nat.{ℕ, suc, ◌+◌, ◌≤◌}
use mathlib.Core.Path.{◌≡◌, refl, ◌∙◌}
use mathlib.Core.List.{List, [], ◌∷◌, ◌++◌}
use native.Mathlib.Nat.{zero-add, add-zero, add-suc, suc-add}
use native.Mathlib.Omega.{arith}
use lib.ListN.{length, drop, set, length-append}
use lib.Seq.{sets, sets-eq}
use Rattle.showing.specs.Output.{laid}
use Rattle.showing.specs.Puts.{Room, Put}

-- one text behind another
laid-append : (xs out : List ℕ) (at : ℕ) (ys : List ℕ) → laid out at (xs ++ ys) ≡ laid (laid out at xs) (at + length xs) ys
unfolding laid
laid-append [] out at ys = rw add-zero
laid-append (x ∷ xs) out at ys = laid-append xs (set out at x) (suc at) ys ∙ rw (add-suc, ← suc-add)

-- `rest` is what is left of a text
pub record Left (out₀ : List ℕ) (at₀ : ℕ) (text out : List ℕ) (at : ℕ) (rest : List ℕ) : Type 0 where
  pub bytes : laid out at rest ≡ laid out₀ at₀ text
  pub place : at + length rest ≡ at₀ + length text

pub all_left : (out : List ℕ) (at : ℕ) (text : List ℕ) → Left out at text out at text
all_left out at text = record { bytes = refl; place = refl }

-- and begins with a piece, which is to be put next
pub record Next (out₀ : List ℕ) (at₀ : ℕ) (text out : List ℕ) (at : ℕ) (piece rest : List ℕ) : Type 0 where
  pub left : Left out₀ at₀ text out at (piece ++ rest)

module _ {out₀ : List ℕ} {at₀ : ℕ} {text out : List ℕ} {at : ℕ} where
  pub next : {all : List ℕ} (piece rest : List ℕ) → all ≡ piece ++ rest → Left out₀ at₀ text out at all → Next out₀ at₀ text out at piece rest
  next piece rest e l = record { left = rw e at l }

  pub room : {piece rest : List ℕ} → Next out₀ at₀ text out at piece rest → Room at₀ text → Room at piece
  room {piece} {rest} n r = omega (arith, n.left.place, length-append piece rest)

  pub put_next : {piece rest exit : List ℕ} {r : ℕ} → Next out₀ at₀ text out at piece rest → Put out at piece exit r → Left out₀ at₀ text exit r rest
  put_next {piece} {rest} n p =
      record {
        bytes = rw (p.bytes, p.place, ← laid-append piece out at rest) n.left.bytes;
        place = omega (arith, n.left.place, p.place, length-append piece rest);
      }

  pub put_last : {rest exit : List ℕ} {r : ℕ} → Left out₀ at₀ text out at rest → Put out at rest exit r → Put out₀ at₀ text exit r
  put_last l p = record { bytes = rw p.bytes l.bytes; place = omega (arith, l.place, p.place) }

  pub all-put : Left out₀ at₀ text out at [] → Put out₀ at₀ text out at
  unfolding laid
  all-put l = record { bytes = l.bytes; place = omega (arith, l.place) }

-- the output may be left as it is then
pub left_so : {out : List ℕ} {at : ℕ} {text exit end : List ℕ} {r : ℕ} → Put out at text exit r → end ≡ exit → Put out at text end r
left_so p e = record { bytes = e ∙ p.bytes; place = p.place }

-- in an output with room for it a text stands whole
laid-sets : (xs out : List ℕ) (at : ℕ) → laid out at xs ≡ sets out at xs
unfolding laid
laid-sets [] out at = refl
laid-sets (x ∷ xs) out at = laid-sets xs (set out at x) (suc at)

pub laid-whole : (text out : List ℕ) → length text ≤ length out → laid out 0 text ≡ text ++ drop (length text) out
laid-whole text out h = laid-sets text out 0 ∙ sets-eq text out 0 (omega arith) ∙ rw zero-add
