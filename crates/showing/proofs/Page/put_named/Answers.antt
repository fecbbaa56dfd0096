-- `showing::Page::put_named` meets its contract: the word, and then the number.
use native.Mathlib.Omega.{arith}
use mathlib.Core.Path.{refl}
use mathlib.Core.List.{◌∷◌}
use lib.ListN.{length-append}
use Rattle.decimals.specs.Decimals.{spelled}
use Rattle.showing.specs.Text.{space}
use Rattle.showing.proofs.Laws.{all_left, next, put_next, put_last}
use Rattle.showing.proofs.Page.put_named.Goals as goal

pub put_word-requires : goal.put_word-requires
put_word-requires c =
    let args = c.args in
    omega (arith, length-append args.word.now (space ∷ spelled args.n))

pub put_spaced-requires : goal.put_spaced-requires
put_spaced-requires c =
    let args = c.args in
    omega (arith, length-append args.word.now (space ∷ spelled args.n))

pub returns-clause-put : goal.returns-clause-put
returns-clause-put c = put_last (put_next (next c.args.word.now _ refl (all_left _ _ _)) c.put_word.ensures.put) c.put_spaced.ensures.put
