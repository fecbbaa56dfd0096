-- What is shown of generated files beside the contract (document 02, item 6). Assumes nothing.
use Rattle.std.specs.Prelude.{ℕ, ◌^◌, ◌<◌, ◌≡◌, List}
use Rattle.model.specs.Answers.{accept}
use Rattle.taskfile.specs.File.{task_of, IsAccepted}
use Rattle.testload.specs.Draws.{drawn_task}
use Rattle.testload.specs.Calls.{generate_verdict, generated}

-- what a seed makes is a task file, of the task that the seed draws
abbrev pub GeneratedAccepted : Type 0
GeneratedAccepted =
    (seed n m s q r : ℕ) (out : List ℕ) → seed < 2 ^ 32 → q < 2 ^ 32 → r < 2 ^ 32 → generate_verdict n m s out ≡ accept
    → IsAccepted (generated seed n m s q r out) × (task_of (generated seed n m s q r out) ≡ drawn_task seed n m s q r)
