-- `showing::Page::put_spaced` meets its contract: the space, and then the digits.
use mathlib.Core.Path.{refl}
use mathlib.Core.List.{[], ◌∷◌}
use Rattle.showing.specs.Text.{space}
use Rattle.showing.proofs.Laws.{all_left, next, put_next, put_last}
use Rattle.showing.proofs.Page.put_spaced.Goals as goal

pub returns-clause-put : goal.returns-clause-put
returns-clause-put c = put_last (put_next (next (space ∷ []) _ refl (all_left _ _ _)) c.put_byte.ensures.put) c.put_number.ensures.put
