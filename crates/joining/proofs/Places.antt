-- A refusal of a task file has a place of at most 97, so the place that is answered for the second file is the exact one; and what a join answers
-- and leaves, by the first verdict that refuses. Assumes nothing.
use Rattle.std.proofs.Common.{ℕ, ◌+◌, ◌≡◌, refl, sym, Err, Ok, Result, List, length, arith}
use Rattle.std.specs.Result.{MatchResult, IsErrAnd}
use Rattle.model.specs.Answers.{accept, Verdict, place, most_blocks}
use Rattle.model.specs.declared.Refusal.{Refusal}
use Rattle.answers.specs.Places.{second_place, placed}
use Rattle.answers.specs.declared.Refused.{Refused}
use Rattle.answers.proofs.Places.{second-place}
use Rattle.taskfile.specs.File.{task_of, file_of, verdict}
use Rattle.taskfile.proofs.Places.{verdict-most}
use Rattle.joining.specs.Joining.{joined}
use Rattle.joining.specs.Calls.{join_rows, join_verdict, join_place, join_left}

pub second-exact : (file : List ℕ) (r : Refusal) → Err r ≡ verdict file → second_place (place r) ≡ place r + most_blocks
second-exact file r e = let few = rw (← e) at (verdict-most file) in second-place (place r) (omega (arith, few))

-- what `?` hands out of a refusal with a place

pub placed-is : (x : Refused) (v : Verdict) (i : ℕ) (r : Refusal) → v ≡ Err r → x.refusal ≡ r → x.place ≡ i → Err x ≡ placed v i (tt {0})
placed-is x v i r a b c = rw (a, ← b, ← c) refl

-- a refusal that another was made of
pub err-made : (v : Verdict) (w : Result (Unit {0}) Refused) (P : Refusal → Refused → Type 0) (x : Refused)
    → MatchResult v (λ u. w ≡ Ok u) (λ e. IsErrAnd w (P e)) → w ≡ Err x → (e : Refusal) × (v ≡ Err e) × P e x
err-made (Ok u) w P x m h = let z : ◌≡◌ {A = ℕ} 0 1 = cc in absurd (omega arith)
err-made (Err e) w P x m h = (e, refl, rw h at m)

pub ok-kept : (v : Verdict) (w : Result (Unit {0}) Refused) (P : Refusal → Refused → Type 0) (u : Unit {0})
    → MatchResult v (λ u. w ≡ Ok u) (λ e. IsErrAnd w (P e)) → w ≡ Ok u → v ≡ accept
ok-kept (Ok u) w P x m h = refl
ok-kept (Err e) w P x m h = absurd (rw h at m)

-- the answers by the first verdict that refuses

module _ (first second out : List ℕ) (r : Refusal) where
  pub refused-first : Err r ≡ verdict first
      → (join_verdict first second out ≡ Err r) × (join_place first second out ≡ place r) × (join_left first second out ≡ out)
  unfolding join_verdict join_place join_left
  refused-first e = (rw (← e), rw (← e), rw (← e))

  module _ (a : accept ≡ verdict first) where
    pub refused-second : Err r ≡ verdict second
        → (join_verdict first second out ≡ Err r) × (join_place first second out ≡ second_place (place r)) × (join_left first second out ≡ out)
    unfolding join_verdict join_place join_left
    refused-second e = (rw (← a, ← e), rw (← a, ← e) (sym (second-exact second r e)), rw (← a, ← e))

    pub refused-rows : accept ≡ verdict second → Err r ≡ join_rows (task_of first) (task_of second) (length out)
        → (join_verdict first second out ≡ Err r) × (join_place first second out ≡ place r) × (join_left first second out ≡ out)
    unfolding join_verdict join_place join_left
    refused-rows b e = (rw (← a, ← b, ← e), rw (← a, ← b, ← e), rw (← a, ← b, ← e))

pub accepted-all : (first second out : List ℕ) → accept ≡ verdict first → accept ≡ verdict second → accept ≡ join_rows (task_of first) (task_of second) (length out)
    → (join_verdict first second out ≡ accept) × (join_left first second out ≡ file_of (joined (task_of first) (task_of second)))
unfolding join_verdict join_left
accepted-all first second out a b e = (rw (← a, ← b, ← e), rw (← a, ← b, ← e))
