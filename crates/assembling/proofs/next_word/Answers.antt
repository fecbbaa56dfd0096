-- `assembling::next_word` meets its contract: blanks, and then a word.
use Prim.Native.Nat.{ℕ, ◌<◌}
use mathlib.Core.Path.{◌≡◌, sym, ◌∙◌}
use mathlib.Core.Bool.{false}
use native.Mathlib.Omega.{arith}
use borrow.Author.Tests.{eqb-true}
use lib.Dec.{eqb}
use Rattle.std.proofs.lemmas.Bool.Decides.{nat_tests}
use Rattle.assembling.specs.Words.{is_blank, is_word_byte}
use Rattle.assembling.proofs.Spans.{run_of, first_word, no_word}
use Rattle.assembling.proofs.next_word.Goals as goal

some : (n : ℕ) → eqb n 0 ≡ false → 0 < n
some n e = grind (arith, nat_tests)

pub returns-then-is_empty : goal.returns-then-is_empty
returns-then-is_empty c =
    no_word (run_of is_blank _ _ _ c.split_run.ensures) (run_of is_word_byte _ _ _ c.split_run-2.ensures)
    (eqb-true _ 0 (sym c.is_empty.ensures ∙ c.if-is_empty.true))

pub returns-else-is_empty : goal.returns-else-is_empty
returns-else-is_empty c =
    first_word (run_of is_blank _ _ _ c.split_run.ensures) (run_of is_word_byte _ _ _ c.split_run-2.ensures)
    (some _ (sym c.is_empty.ensures ∙ c.if-is_empty.false))
