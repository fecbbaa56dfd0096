-- What the call answers, and what it leaves in the lent output. Assumes nothing.
use Rattle.std.specs.Prelude.{ℕ, cond, List, ◌++◌, leb, length, drop, Err, Result}
use Rattle.model.specs.Answers.{accept, Verdict, on_accepted, answered, and_then}
use Rattle.model.specs.declared.Refusal.{Refusal}
use Rattle.model.specs.declared.Refusal.TheVariants.{Output}
use Rattle.taskfile.specs.File.{task_of, verdict}
use Rattle.showing.specs.Text.{text_of}

-- the text of a file's task
abbrev pub shown_text : List ℕ → List ℕ
shown_text file = text_of (task_of file)

-- refusal 9: an output is shorter than the text
unfoldable pub room_row : ℕ → ℕ → Verdict
room_row size length = cond (leb size length) accept (Err Output)

-- the verdict, in order: 1 to 5, and 9
unfoldable pub show_verdict : List ℕ → List ℕ → Verdict
show_verdict file out = and_then (verdict file) (room_row (length (shown_text file)) (length out))

-- the answer: the text's length, or the refusal
unfoldable pub show_answer : List ℕ → List ℕ → Result ℕ Refusal
show_answer file out = answered (show_verdict file out) (length (shown_text file))

-- the output after the call: it begins with the text, and the bytes past that are as they were; on a refusal all are
unfoldable pub show_output : List ℕ → List ℕ → List ℕ
show_output file out = on_accepted (show_verdict file out) (shown_text file ++ drop (length (shown_text file)) out) out
