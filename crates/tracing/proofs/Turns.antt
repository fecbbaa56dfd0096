-- One turn of a scan: what is left of a piece, scanned on, comes to the same after one byte more. So a scan goes ahead over bytes that are no
-- line feeds.
-- Assumes nothing.
use Prim.Native.Nat.{ℕ, ◌+◌, ◌<◌}
use mathlib.Core.Path.{◌≡◌, refl, ◌∙◌}
use mathlib.Core.Bool.{false}
use mathlib.Core.List.{List, [], ◌∷◌}
use native.Mathlib.Numerals.{add-one}
use native.Mathlib.Omega.{arith}
use lib.Dec.{eqb}
use lib.ListN.{length, get_or, drop}
use lib.Seq.{drop-cons}
use Rattle.tracing.specs.Din.{line_feed}
use Rattle.tracing.specs.Scans.{byte_added, after, kept_after, scanned, kept, Ahead}
use Rattle.tracing.specs.declared.Scan.{Scan}

-- where no byte is left
pub scanned-none : (s : Scan) (bs : List ℕ) → length bs ≡ 0 → scanned s bs ≡ s
unfolding scanned
scanned-none s [] e = refl
scanned-none s (b ∷ bs) e = absurd (omega arith)

pub kept_none : (s : Scan) (bs addresses : List ℕ) → length bs ≡ 0 → kept s bs addresses ≡ addresses
unfolding kept
kept_none s [] addresses e = refl
kept_none s (b ∷ bs) addresses e = absurd (omega arith)

pub ahead_none : (s : Scan) (rest : List ℕ) → Ahead s rest s rest
ahead_none s rest = record { shorter = omega arith; same = refl; keeps = λ addresses. refl }

-- one byte more that is no line feed
pub ahead_more : (s : Scan) (rest : List ℕ) (r : Scan) (b : ℕ) (left : List ℕ) → Ahead s rest r (b ∷ left) → eqb b line_feed ≡ false
    → Ahead s rest (byte_added r b) left
unfolding scanned kept after kept_after
ahead_more s rest r b left a f =
    record {
      shorter = omega (arith, a.shorter);
      same = rw f at a.same;
      keeps = λ addresses. rw f at (a.keeps addresses);
    }

-- the same, at a place of what is left
pub ahead-at : (s : Scan) (rest : List ℕ) (r : Scan) (left : List ℕ) (i : ℕ) → Ahead s rest r (drop i left) → i < length left
    → eqb (get_or left i 0) line_feed ≡ false → Ahead s rest (byte_added r (get_or left i 0)) (drop (i + 1) left)
ahead-at s rest r left i a h f = rw add-one (ahead_more s rest r (get_or left i 0) _ (rw (drop-cons left i 0 h) at a) f)

-- one piece of the way after another
pub ahead-both : (s : Scan) (rest : List ℕ) (p : Scan) (between : List ℕ) (r : Scan) (left : List ℕ) → Ahead s rest p between → Ahead p between r left
    → Ahead s rest r left
ahead-both s rest p between r left a b =
    record {
      shorter = omega (arith, a.shorter, b.shorter);
      same = b.same ∙ a.same;
      keeps = λ addresses. b.keeps addresses ∙ a.keeps addresses;
    }
