-- What `map_err` says, read backwards: a value was there before, and an error was made of one. Assumes nothing.
use Rattle.std.specs.Prelude.{Result, Ok, Err, MatchResult}
use Rattle.std.specs.Result.{IsErrAnd}
use mathlib.Core.Path.{◌≡◌, refl, sym, ap, subst, ◌∙◌}
use Rattle.model.proofs.Verdicts.{never_both, ok-same}

module _ {T E D : Type 0} (P : E → D → Type 0) where
  pub mapped-ok : (s : Result T E) (r : Result T D) (x : T) → MatchResult s (λ y. r ≡ Ok y) (λ e. IsErrAnd r (P e)) → r ≡ Ok x → s ≡ Ok x
  mapped-ok (Ok y) r x m q = ap Ok (ok-same (sym m ∙ q))
  mapped-ok (Err e) r x m q = let Q : Result T D → Type 0 = λ s. IsErrAnd s (P e) in absurd (subst Q q m)

  pub mapped-err : (s : Result T E) (r : Result T D) (f : D) → MatchResult s (λ y. r ≡ Ok y) (λ e. IsErrAnd r (P e)) → r ≡ Err f → (e : E) × (s ≡ Err e) × P e f
  mapped-err (Ok y) r f m q = absurd (never_both (sym m ∙ q))
  mapped-err (Err e) r f m q = let Q : Result T D → Type 0 = λ s. IsErrAnd s (P e) in (e, refl, subst Q q m)
