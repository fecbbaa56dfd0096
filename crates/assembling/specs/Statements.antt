-- What is shown of the two ways beside the contracts. Assumes nothing.
use Rattle.std.specs.Prelude.{ℕ, ◌≡◌, List, length, take, None, Ok}
use Rattle.model.specs.Answers.{accept}
use Rattle.model.specs.Task.{Task}
use Rattle.taskfile.specs.File.{IsAccepted, task_of, Within}
use Rattle.showing.specs.Text.{text_of}
use Rattle.showing.specs.Calls.{show_verdict, show_answer, show_output}
use Rattle.assembling.specs.Drafts.{wrong_in, task_in}
use Rattle.assembling.specs.Calls.{output_size, assemble_verdict, assemble_answer, assemble_output}

-- the text of any task within the limits of a file has no wrong line, and says that task
abbrev pub TextSaysTask : Type 0
TextSaysTask = (t : Task) → Within t → (wrong_in (text_of t) ≡ None) × (task_in (text_of t) ≡ t)

-- so the text that is shown of a file is read back as the same bytes
abbrev pub ShownAssembles : Type 0
ShownAssembles =
    (file room out : List ℕ) → show_verdict file room ≡ accept → length out ≡ output_size
    → (n : ℕ) × (show_answer file room ≡ Ok n) ×
    (let text = take n (show_output file room) in
    (assemble_verdict text out ≡ accept) × ((m : ℕ) × (assemble_answer text out ≡ Ok m) × (take m (assemble_output text out) ≡ file)))

-- every file that is made of a text is accepted, and its task is the one that the text says
abbrev pub AssembledAccepted : Type 0
AssembledAccepted =
    (text out : List ℕ) → assemble_verdict text out ≡ accept
    → (n : ℕ) × (assemble_answer text out ≡ Ok n) ×
    (let file = take n (assemble_output text out) in
    IsAccepted file × (task_of file ≡ task_in text))
