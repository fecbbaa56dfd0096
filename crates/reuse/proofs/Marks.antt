-- Marks of lines, and numbers beside them: one line more. Assumes nothing.
use Prim.Native.Nat.{ℕ, zero, suc, ◌<◌}
use mathlib.Core.Path.{◌≡◌, refl, sym, ap, ◌∙◌}
use mathlib.Core.Bool.{Bool, true, false, cond, ◌&&◌, ◌||◌, or-true, or-false}
use mathlib.Core.List.{List, [], ◌∷◌}
use native.Mathlib.Omega.{arith}
use mathlib.Core.Logic.{by_cases}
use native.Mathlib.Decide.{ℕ_discrete}
use lib.Dec.{eqb}
use lib.ListN.{length, get_or, set}
use lib.Seq.{get_or-set_same, get_or-set_other}
use borrow.Author.Tests.{eq-eqb, ne_eqb}

-- one line more, if it is to be marked
pub one-mark-if : {A : Type 0} (xs : List A) (line d : ℕ) (n : A) (on : Bool) (v : A) → line < length xs → v ≡ cond on n (get_or xs line n)
    → get_or (set xs line v) d n ≡ cond (eqb d line && on) n (get_or xs d n)
one-mark-if xs line d n on v h is =
    by_cases (ℕ_discrete d line) (λ e. rw (e, eq-eqb line line refl) (get_or-set_same xs line v n h ∙ is))
    (λ m. rw (ne_eqb d line m) (get_or-set_other xs line d v n m))

-- within a list the default does not matter
pub any-default : {A : Type 0} (xs : List A) (i : ℕ) (d e : A) → i < length xs → get_or xs i d ≡ get_or xs i e
any-default [] i d e h = absurd (omega arith)
any-default (x ∷ xs) zero d e h = refl
any-default (x ∷ xs) (suc i) d e h = any-default xs i d e (omega arith)

-- lines that are marked with true are marked, and the others as before
pub marked-true : (before after : List Bool) (d : ℕ) (s : Bool) → d < length before → d < length after → get_or after d true ≡ cond s true (get_or before d true)
    → get_or after d false ≡ (get_or before d false || s)
marked-true before after d s hb ha is =
    any-default after d false true ha ∙ is ∙ ap (cond s true) (any-default before d true false hb) ∙ go s (get_or before d false)
  where
    go : (s b : Bool) → cond s true b ≡ (b || s)
    go true b = sym (or-true b)
    go false b = sym (or-false b)

-- and lines that are marked with a number
pub marked-number : (before after : List ℕ) (d n : ℕ) (s : Bool) → d < length before → d < length after → get_or after d n ≡ cond s n (get_or before d n)
    → get_or after d 0 ≡ cond s n (get_or before d 0)
marked-number before after d n s hb ha is = any-default after d 0 n ha ∙ is ∙ ap (cond s n) (any-default before d n 0 hb)
