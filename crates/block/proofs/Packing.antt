-- Laws of numbers of several widths that stand one after another: packing and reading undo one another.
-- Assumes nothing.
use Prim.Native.Nat.{ℕ, ◌+◌, ◌≤◌}
use mathlib.Core.Path.{◌≡◌, refl, ap₂}
use mathlib.Core.Bool.{Bool, true, false, cond, ◌&&◌, and-eq-true_iff}
use mathlib.Core.List.{List, [], ◌∷◌, ◌++◌, append_assoc}
use native.Mathlib.Omega.{arith}
use lib.Dec.{eqb}
use lib.ListN.{length, take, drop, length-append}
use lib.Seq.{take-add, drop-drop}
use borrow.Author.Tests.{eqb-true}
use Rattle.block.specs.Bytes.{AllBytes, Sized, InWidth, le, packed, field, Each}
use Rattle.block.proofs.Bytes.{length-le, le-field, field-le, field_below, pow-bytes, bytes-append, bytes_le}

-- how many bytes numbers of these widths take
unfoldable pub total : List ℕ → ℕ
total [] = 0
total (w ∷ ws) = w + total ws

-- the numbers of these widths that stand in bytes from position at on
unfoldable pub unpacked : List ℕ → ℕ → List ℕ → List Sized
unpacked bs at [] = []
unpacked bs at (w ∷ ws) = (w, field bs at w) ∷ unpacked bs (at + w) ws

pub packed-unpacked : (bs : List ℕ) (at : ℕ) (ws : List ℕ) → AllBytes bs → at + total ws ≤ length bs
    → packed (unpacked bs at ws) ≡ take (total ws) (drop at bs)
unfolding packed unpacked total
packed-unpacked bs at [] b h = refl
packed-unpacked bs at (w ∷ ws) b h =
    rw (take-add, drop-drop) (ap₂ ◌++◌ (le-field bs at w b (omega arith)) (packed-unpacked bs (at + w) ws b (omega arith)))

pub packed-bytes : (ss : List Sized) → AllBytes (packed ss)
unfolding packed
packed-bytes [] i h = absurd (omega arith)
packed-bytes (s ∷ ss) i h = bytes-append (le s.0 s.1) (packed ss) (bytes_le s.0 s.1) (packed-bytes ss) i h

pub unpacked-fits : (bs : List ℕ) (at : ℕ) (ws : List ℕ) → AllBytes bs → Each InWidth (unpacked bs at ws)
unfolding unpacked Each
unpacked-fits bs at [] b = tt
unpacked-fits bs at (w ∷ ws) b = (rw pow-bytes (field_below bs at w b), unpacked-fits bs (at + w) ws b)

-- the number that stands at position p in w bytes, where the first stands at position at; other where none does
unfoldable pub number_at : ℕ → List Sized → ℕ → ℕ → ℕ → ℕ
number_at at [] p w other = other
number_at at (s ∷ ss) p w other = cond (eqb p at && eqb w s.0) s.1 (number_at (at + s.0) ss p w other)

-- what stands at a position of packed numbers is read there
field-packed : (before after : List ℕ) (at : ℕ) (ss : List Sized) → length before ≡ at → Each InWidth ss → (p w : ℕ)
    → let bs = before ++ packed ss ++ after in field bs p w ≡ number_at at ss p w (field bs p w)
unfolding packed Each number_at
field-packed before after at [] l f p w = refl
field-packed before after at (s ∷ ss) l f p w =
    go (eqb p at && eqb w s.0) refl
    (field-packed (before ++ le s.0 s.1) after (at + s.0) ss
    (omega (arith, length-append before (le s.0 s.1), length-le s.0 s.1)) f.1 p w)
  where
    bs : List ℕ
    bs = before ++ (le s.0 s.1 ++ packed ss) ++ after

    first : bs ≡ before ++ le s.0 s.1 ++ (packed ss ++ after)
    first = simp append_assoc

    later : bs ≡ before ++ le s.0 s.1 ++ packed ss ++ after
    later = simp append_assoc

    go : (b : Bool) → (eqb p at && eqb w s.0) ≡ b
        → (let ys = before ++ le s.0 s.1 ++ packed ss ++ after in field ys p w ≡ number_at (at + s.0) ss p w (field ys p w))
        → field bs p w ≡ cond b s.1 (number_at (at + s.0) ss p w (field bs p w))
    go true e ih =
        let both = (and-eq-true_iff (eqb p at) (eqb w s.0)).0 e in
        rw (eqb-true p at both.0, eqb-true w s.0 both.1, first) (field-le before (packed ss ++ after) at s.0 s.1 l f.0)
    go false e ih = rw later ih

-- the same of bytes that begin with packed numbers, of all positions at once
pub numbers-read : (bs after : List ℕ) (ss : List Sized) → bs ≡ packed ss ++ after → Each InWidth ss
    → field bs ≡ (λ p w. number_at 0 ss p w (field bs p w))
numbers-read bs after ss e f = λ i p w. at p w i
  where
    at : (p w : ℕ) → field bs p w ≡ number_at 0 ss p w (field bs p w)
    at p w = rw e (field-packed [] after 0 ss refl f p w)
