-- What the call answers, and what it leaves in the lent buffer (document 02, item 6). Assumes nothing.
use Rattle.std.specs.Prelude.{ℕ, cond, List, length, Err}
use Rattle.model.specs.Answers.{accept, Verdict, on_accepted, and_then, output_row}
use Rattle.model.specs.declared.Refusal.TheVariants.{OutOfRange}
use Rattle.taskfile.specs.File.{counts_in_range, file_of}
use Rattle.writer.specs.Writing.{file_size}
use Rattle.testload.specs.Draws.{drawn_task}

-- refusal 10: N, M or S is out of its range
unfoldable pub counts_row : ℕ → ℕ → ℕ → Verdict
counts_row n m s = cond (counts_in_range n m s) accept (Err OutOfRange)

-- the answer: the ranges are looked at first
unfoldable pub generate_verdict : ℕ → ℕ → ℕ → List ℕ → Verdict
generate_verdict n m s out = and_then (counts_row n m s) (output_row (file_size n m) (length out))

-- the buffer after the call: the bytes of the drawn task, and on a refusal what it held
unfoldable pub generated : ℕ → ℕ → ℕ → ℕ → ℕ → ℕ → List ℕ → List ℕ
generated seed n m s q r out = on_accepted (generate_verdict n m s out) (file_of (drawn_task seed n m s q r)) out
