-- The two ways: a text becomes the file of the task that it says, and the text of a file's task says that task.
-- Assumes nothing.
use Rattle.std.specs.Prelude.{None, Ok, Option, Some}
use Prim.Native.Nat.{ℕ}
use mathlib.Core.Path.{◌≡◌, refl, sym, ◌∙◌}
use mathlib.Core.List.{List}
use lib.ListN.{length, take}
use lib.Seq.{take_at}
use Rattle.model.specs.Answers.{accept, output_row, refused_at}
use Rattle.model.specs.declared.Refusal.TheVariants.{WrongText}
use Rattle.model.proofs.Verdicts.{both-accepted, never_both, output-accepts}
use Rattle.taskfile.specs.File.{IsAccepted, verdict, task_of, file_of}
use Rattle.taskfile.proofs.Files.{task-then-file, accepted-within}
use Rattle.taskfile.proofs.Tasks.{file-then-task}
use Rattle.showing.specs.Calls.{shown_text, show_verdict, show_answer, show_output}
use Rattle.assembling.specs.Drafts.{draft_in, task_from, wrong_in, task_in}
use Rattle.assembling.specs.Calls.{assemble_verdict, assemble_output}
use Rattle.assembling.specs.Statements.{TextSaysTask, ShownAssembles, AssembledAccepted}
use Rattle.assembling.proofs.Limits.{text-drafted, within-drafted}
use Rattle.assembling.proofs.Closing.{assemble-accepted, text-accepted}
use Rattle.assembling.proofs.Round.{text-known, text-right}

pub text-says-task : TextSaysTask
unfolding task_from
text-says-task t w = (text-right t w, rw (text-known t w) refl)

-- the file that stands in front of the output
front : (text out : List ℕ) → assemble_verdict text out ≡ accept → take (length (file_of (task_in text))) (assemble_output text out) ≡ file_of (task_in text)
front text out e = rw ((assemble-accepted text out e).1) (take_at (file_of (task_in text)) _ (length (file_of (task_in text))) refl)

no-wrong-line : (text out : List ℕ) → assemble_verdict text out ≡ accept → wrong_in text ≡ None
unfolding assemble_verdict
no-wrong-line text out e = go (wrong_in text) (both-accepted (output_row 49664 (length out)) _ e).1
  where
    go : (p : Option ℕ) → refused_at p WrongText accept ≡ accept → p ≡ None
    go None e = refl
    go (Some i) e = absurd (never_both (sym e))

pub assembled-accepted : AssembledAccepted
assembled-accepted text out e = (
  length (file_of (task_in text)),
  (assemble-accepted text out e).0,
  rw (front text out e) (file-then-task (task_in text) (within-drafted (draft_in text) (text-drafted text (no-wrong-line text out e)))),
)

-- the text that stands in front of the room
shown : (file room : List ℕ) → show_verdict file room ≡ accept
    → (show_answer file room ≡ Ok (length (shown_text file))) × (take (length (shown_text file)) (show_output file room) ≡ shown_text file)
unfolding show_answer show_output
shown file room e = (rw e refl, rw e (take_at (shown_text file) _ (length (shown_text file)) refl))

pub shown-assembles : ShownAssembles
unfolding show_verdict
shown-assembles file room out e long =
    let accepts : IsAccepted file = (both-accepted (verdict file) _ e).0 in
    let says = text-says-task (task_of file) (accepted-within file accepts) in
    let right = text-accepted (shown_text file) out (output-accepts 49664 (length out) long) says.0 in
    let text = shown file room e in (
      length (shown_text file),
      text.0,
      rw text.1 (
        right,
        (
          length (file_of (task_in (shown_text file))),
          (assemble-accepted (shown_text file) out right).0,
          front (shown_text file) out right ∙ rw says.1 (task-then-file file accepts),
        ),
      ),
    )
