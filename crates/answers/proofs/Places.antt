-- A place of at most 64 bits is handed out as it is, and a refusal is told by its two parts. Assumes nothing.
use Prim.Native.Nat.{ℕ, ◌+◌, ◌^◌, ◌<◌}
use mathlib.Core.Path.{◌≡◌}
use native.Mathlib.Omega.{arith}
use Rattle.std.specs.Prelude.{Result, Ok, Err}
use Rattle.std.specs.Result.{IsErrAnd}
use Rattle.model.specs.Answers.{most_blocks}
use Rattle.model.specs.declared.Refusal.{Refusal}
use Rattle.answers.specs.declared.Refused.{Refused}
use Rattle.model.specs.Answers.{accept, Verdict}
use Rattle.model.proofs.Verdicts.{never_both, ok-same, err-same}
use mathlib.Core.Path.{refl, sym, ap}
use Rattle.answers.specs.Places.{second_place, placed}

pub second-place : (p : ℕ) → p + most_blocks < 2 ^ 64 → second_place p ≡ p + most_blocks
second-place p h = omega arith

pub refused-as : {A : Type 0} (s : Result A Refused) (x : Refusal) (n : ℕ) → IsErrAnd s (λ e. (e.refusal ≡ x) × (e.place ≡ n))
    → s ≡ Err (record { refusal = x; place = n })
refused-as (Ok a) x n h = absurd h
refused-as (Err e) x n h = λ i. Err (record { refusal = h.0 i; place = h.1 i })

-- what `placed` answers, read backwards
pub placed-ok : {A : Type 0} (v : Verdict) (n : ℕ) (a b : A) → placed v n a ≡ Ok b → (v ≡ accept) × (a ≡ b)
placed-ok (Ok u) n a b e = (refl, ok-same e)
placed-ok (Err x) n a b e = absurd (never_both (sym e))

pub placed-err : {A : Type 0} (v : Verdict) (n : ℕ) (a : A) (r : Refused) → placed v n a ≡ Err r → (v ≡ Err r.refusal) × (n ≡ r.place)
placed-err (Ok u) n a r e = absurd (never_both e)
placed-err (Err x) n a r e = let same = err-same e in (ap (λ (q : Refused). Err q.refusal) same, ap (λ (q : Refused). q.place) same)
