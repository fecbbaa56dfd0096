-- Where nothing is refused, the output has room for the text. Assumes nothing.
use Rattle.model.specs.Answers.{accept}
use Prim.Native.Nat.{ℕ, ◌≤◌}
use mathlib.Core.Path.{◌≡◌}
use mathlib.Core.List.{List}
use lib.ListN.{length}
use borrow.Author.Tests.{leb-true}
use Rattle.model.specs.declared.Refusal.TheVariants.{Output}
use Rattle.model.proofs.Verdicts.{both-accepted, row-holds}
use Rattle.taskfile.specs.File.{verdict}
use Rattle.showing.specs.Calls.{shown_text, room_row, show_verdict}

pub text-fits : (file out : List ℕ) → show_verdict file out ≡ accept → length (shown_text file) ≤ length out
unfolding show_verdict room_row
text-fits file out e = leb-true _ _ (row-holds Output _ (both-accepted (verdict file) (room_row (length (shown_text file)) (length out)) e).1)
