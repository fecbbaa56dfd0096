-- The cache lines that a LineSet holds. Assumes nothing.
use Rattle.model.specs.Sets.{Lines, in_words}
use Rattle.lineset.specs.declared.LineSet.{LineSet}

abbrev pub members : LineSet → Lines
members s = in_words s.words
