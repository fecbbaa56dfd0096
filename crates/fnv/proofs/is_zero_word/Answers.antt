-- `fnv::is_zero_word` meets its contract: the number is 0 if each byte is.
use mathlib.Core.Path.{sym, ◌∙◌}
use native.Mathlib.Omega.{arith}
use lib.Seq.{take_all}
use borrow.Author.Tests.{eqb-true}
use Rattle.fnv.proofs.Zeros.{all-zero}
use Rattle.fnv.proofs.is_zero_word.Goals as goal

pub returns : goal.returns
returns c =
    let word = c.args.word.now in
    λ e. sym (take_all 8 word (omega arith)) ∙ all-zero 8 word 0 (omega arith) (c.eight_at.ensures (eqb-true _ _ e))
