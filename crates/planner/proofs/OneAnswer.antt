-- Planning's answer for a file is one: the file's refusal, or the one answer for its task.
-- Assumes nothing.
use Rattle.std.specs.Prelude.{Err, Ok}
use mathlib.Core.Path.{◌≡◌, refl, sym, ◌∙◌}
use Rattle.model.specs.Answers.{Verdict}
use Rattle.model.proofs.Order.{one-plan}
use Rattle.taskfile.specs.File.{verdict, task_of}
use Rattle.planner.specs.Statements.{OneAnswer}

pub one_answer : OneAnswer
one_answer file r s a b = go (verdict file) refl
  where
    go : (u : Verdict) → verdict file ≡ u → r ≡ s
    go (Ok u) e = one-plan (task_of file) r s (a.planned e) (b.planned e)
    go (Err x) e = a.refused x e ∙ sym (b.refused x e)
