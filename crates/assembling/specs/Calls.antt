-- What the calls answer, and what they leave in the lent output. Assumes nothing.
use Rattle.std.specs.Prelude.{ℕ, List, ◌++◌, length, drop, Result}
use Rattle.model.specs.Answers.{accept, Verdict, on_accepted, answered, refused_at, and_then, output_row}
use Rattle.model.specs.declared.Refusal.{Refusal}
use Rattle.model.specs.declared.Refusal.TheVariants.{WrongText}
use Rattle.taskfile.specs.File.{file_of}
use Rattle.assembling.specs.Drafts.{wrong_in, task_in}

-- from text to file

-- the bytes of the output: the largest file
abbrev pub output_size : ℕ
output_size = 49664

-- the verdict: 9, and then 17 at the lowest line at which the text cannot go on, or at its end
unfoldable pub assemble_verdict : List ℕ → List ℕ → Verdict
assemble_verdict text out = and_then (output_row output_size (length out)) (refused_at (wrong_in text) WrongText accept)

-- the answer: the length of the file of the text's task, or the refusal
unfoldable pub assemble_answer : List ℕ → List ℕ → Result ℕ Refusal
assemble_answer text out = answered (assemble_verdict text out) (length (file_of (task_in text)))

-- the output: it begins with the file, and the bytes past it are as they were; on a refusal all are
unfoldable pub assemble_output : List ℕ → List ℕ → List ℕ
assemble_output text out =
    on_accepted (assemble_verdict text out) (file_of (task_in text) ++ drop (length (file_of (task_in text))) out) out
