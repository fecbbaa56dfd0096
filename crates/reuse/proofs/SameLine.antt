-- `==` of a line and a held number says whether the line holds the same memory block. Assumes nothing.
use Prim.Native.Nat.{ℕ}
use mathlib.Core.Path.{◌≡◌, refl}
use Rattle.model.specs.Lines.{same_block}
use Rattle.model.specs.contracts.LinePartialEq.TheImpl.{ghosts}
use Rattle.model.specs.declared.Line.{Line}
use Rattle.model.specs.declared.Line.TheVariants.{Empty, Held}

pub same-line : (l : Line) (m : ℕ) → ghosts.eq l (Held m) ≡ same_block l (Held m)
same-line Empty m = refl
same-line (Held n) m = refl
