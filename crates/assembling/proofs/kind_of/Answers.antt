-- `assembling::kind_of` meets its contract, word by word.
use Rattle.showing.specs.Text.{block_word, armed_word, preempter_word}
use Rattle.assembling.specs.Drafts.{kind_of}
use Rattle.assembling.proofs.Equal.{word_is}
use Rattle.assembling.proofs.kind_of.Goals as goal

pub returns-then-eq : goal.returns-then-eq
unfolding kind_of
returns-then-eq c = rw (word_is _ _ block_word _ c.eq.ensures c.as_slice.ensures, c.if-eq.true)

pub returns-then-eq-2 : goal.returns-then-eq-2
unfolding kind_of
returns-then-eq-2 c =
    rw (
      word_is _ _ block_word _ c.eq.ensures c.as_slice.ensures,
      c.if-eq.false,
      word_is _ _ armed_word _ c.eq-else-eq.ensures c.as_slice-else-eq.ensures,
      c.if-eq-2.true,
    )

pub returns-then-eq-3 : goal.returns-then-eq-3
unfolding kind_of
returns-then-eq-3 c =
    rw (
      word_is _ _ block_word _ c.eq.ensures c.as_slice.ensures,
      c.if-eq.false,
      word_is _ _ armed_word _ c.eq-else-eq.ensures c.as_slice-else-eq.ensures,
      c.if-eq-2.false,
      word_is _ _ preempter_word _ c.eq-else-eq-2.ensures c.as_slice-else-eq-2.ensures,
      c.if-eq-3.true,
    )

pub returns-else-eq-3 : goal.returns-else-eq-3
unfolding kind_of
returns-else-eq-3 c =
    rw (
      word_is _ _ block_word _ c.eq.ensures c.as_slice.ensures,
      c.if-eq.false,
      word_is _ _ armed_word _ c.eq-else-eq.ensures c.as_slice-else-eq.ensures,
      c.if-eq-2.false,
      word_is _ _ preempter_word _ c.eq-else-eq-2.ensures c.as_slice-else-eq-2.ensures,
      c.if-eq-3.false,
    )
