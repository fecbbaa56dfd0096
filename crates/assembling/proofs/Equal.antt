-- Two lists of bytes are compared byte by byte.
-- Assumes nothing.
use Prim.Native.Nat.{ℕ}
use mathlib.Core.Path.{◌≡◌, refl, sym, ap, ◌∙◌}
use mathlib.Core.Bool.{Bool, ◌&&◌}
use mathlib.Core.List.{List, [], ◌∷◌}
use lib.Dec.{eqb}
use lib.Pointwise.{pointwise}
use Rattle.model.specs.Lists.{same_list}

pub same_is : (xs ys : List ℕ) → pointwise eqb xs ys ≡ same_list xs ys
unfolding same_list
same_is [] [] = refl
same_is [] (y ∷ ys) = refl
same_is (x ∷ xs) [] = refl
same_is (x ∷ xs) (y ∷ ys) = ap (λ (t : Bool). eqb x y && t) (same_is xs ys)

-- so a test of a word says whether it is that of the definition
pub word_is : (xs ys zs : List ℕ) (t : Bool) → t ≡ pointwise eqb xs ys → ys ≡ zs → same_list xs zs ≡ t
word_is xs ys zs t e h = ap (same_list xs) (sym h) ∙ sym (same_is xs ys) ∙ sym e
