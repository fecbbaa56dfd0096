-- `assembling::take_header` meets its contract, test by test.
use mathlib.Core.Path.{refl}
use mathlib.Core.Bool.{and-false}
use Rattle.assembling.proofs.Equal.{word_is}
use Rattle.assembling.proofs.take_header.Goals as goal
use Rattle.assembling.proofs.take_header.Goals.{else-eq-via-then-eq+else-header_right, else-eq-via-else-eq}

pub returns-then-header_right-clause-right_value : goal.returns-then-header_right-clause-right_value
returns-then-header_right-clause-right_value c =
    rw (word_is _ _ _ _ c.eq.ensures c.header_word.ensures, c.if-eq.true, ← c.header_right.ensures, c.if-header_right.true) refl

pub returns-else-eq-clause-right_value : goal.returns-else-eq-clause-right_value
returns-else-eq-clause-right_value c =
    elim c.else-eq.branch [
      | else-eq-via-then-eq+else-header_right w ↦
          rw (word_is _ _ _ _ c.eq.ensures c.header_word.ensures, ← w.header_right.ensures, w.if-header_right.false, and-false) refl
      | else-eq-via-else-eq w ↦ rw (word_is _ _ _ _ c.eq.ensures c.header_word.ensures, w.if-eq.false) refl
    ]
