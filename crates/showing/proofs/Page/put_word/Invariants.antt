-- `showing::Page::put_word` meets its contract: the bytes that are left are the rest of the text.
use mathlib.Core.Path.{◌≡◌}
use lib.ListN.{drop}
use Rattle.showing.proofs.Laws.{Left}
use Rattle.showing.proofs.Page.put_word.Given as goal

abbrev pub invariant-loop-byte : goal.invariant-loop-byte
invariant-loop-byte l = (l.self.out.ghost_name ≡ l.fn.self.out.ghost_name) × Left l.fn.self.out.now l.fn.self.at l.word l.self.out.now l.self.at (drop l.byte-index l.word)
