-- `reuse::note_reader` meets its contract, by the mapping's two cases.
use Prim.Native.Nat.{ℕ, ◌<◌}
use mathlib.Core.Path.{◌≡◌, refl, ◌∙◌}
use mathlib.Core.Bool.{cond, ◌&&◌, and-true, and-false}
use mathlib.Core.List.{List}
use mathlib.Core.Logic.{by_cases}
use native.Mathlib.Decide.{ℕ_discrete}
use native.Mathlib.Omega.{arith}
use lib.Dec.{eqb}
use lib.ListN.{length, get_or, set, length-set}
use lib.Seq.{get_or-set_same, get_or-set_other}
use borrow.Author.Tests.{eq-eqb, ne_eqb}
use Rattle.cacheline.proofs.Below.{line-below}
use Rattle.reuse.proofs.note_reader.Goals as goal
use Rattle.reuse.proofs.note_reader.Goals.{In-Some}

-- one line more
one_reader : (readers : List ℕ) (line by v d : ℕ) → line < length readers → v ≡ cond (eqb (get_or readers line 0) 0) by (get_or readers line 0)
    → get_or (set readers line v) d 0 ≡ cond (eqb (get_or readers d 0) 0 && eqb d line) by (get_or readers d 0)
one_reader readers line by v d h is =
    by_cases (ℕ_discrete d line) (λ e. rw (e, eq-eqb line line refl, and-true) (get_or-set_same readers line v 0 h ∙ is))
    (λ n. rw (ne_eqb d line n, and-false) (get_or-set_other readers line d v 0 n))

-- the line is one of the array
below : (c : goal.In-Some) → c.in-Some.c < 512
below c =
    line-below c.args.mapping c.in-Some.c c.in-Some.is c.requires.1

pub returns-in_default : goal.returns-in_default
returns-in_default c =
    record { readers_len = c.requires.0; first_by = λ d h. rw (c.in_default.is, and-false) refl }

pub returns-in-Some : goal.returns-in-Some
returns-in-Some c =
    let readers = c.args.readers.now in record {
      readers_len = length-set readers c.in-Some.c c.first_reader.result ∙ c.requires.0;
      first_by = λ d h.
          rw c.in-Some.is
          (one_reader readers c.in-Some.c c.args.by c.first_reader.result d (omega (arith, c.requires.0, below (goal.at.returns-in-Some c).In-Some)) c.first_reader.ensures);
    }
