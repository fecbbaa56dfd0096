-- An edge that a call accepts is one of an accepted file. Assumes nothing.
use Rattle.std.specs.Prelude.{Err}
use Rattle.model.specs.Answers.{accept}
use Prim.Native.Nat.{ℕ, ◌≤◌}
use mathlib.Core.Path.{◌≡◌, refl, sym}
use mathlib.Core.Bool.{Bool, true, false, cond}
use mathlib.Core.List.{List}
use lib.Dec.{leb}
use borrow.Author.Tests.{leb-true}
use Rattle.model.specs.Task.{block_count}
use Rattle.model.specs.declared.Refusal.TheVariants.{Argument}
use Rattle.model.proofs.Verdicts.{never_both, both-accepted}
use Rattle.taskfile.specs.File.{verdict, task_of}
use Rattle.planner.specs.Calls.{edge_verdict}

pub edge-inside : (file : List ℕ) (k : ℕ) → edge_verdict file k ≡ accept → (verdict file ≡ accept) × (k ≤ block_count (task_of file))
unfolding edge_verdict
edge-inside file k e =
    let two = both-accepted (verdict file) _ e in
    (two.0, leb-true k (block_count (task_of file)) (holds (leb k (block_count (task_of file))) two.1))
  where
    holds : (b : Bool) → cond b accept (Err (Argument 0)) ≡ accept → b ≡ true
    holds true h = refl
    holds false h = absurd (never_both (sym h))
