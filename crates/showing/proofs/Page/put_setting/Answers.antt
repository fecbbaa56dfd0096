-- `showing::Page::put_setting` meets its contract: the word with the number, and then the line feed.
use native.Mathlib.Omega.{arith}
use mathlib.Core.List.{[], ◌∷◌}
use Rattle.showing.specs.Text.{line_feed, spaced}
use Rattle.showing.proofs.Lines.{line-begins, line-length}
use Rattle.showing.proofs.Laws.{all_left, next, put_next, put_last}
use Rattle.showing.proofs.Page.put_setting.Goals as goal

pub put_named-requires : goal.put_named-requires
unfolding spaced
put_named-requires c =
    let args = c.args in
    omega (arith, line-length args.word.now args.n [])

pub put_byte-requires : goal.put_byte-requires
unfolding spaced
put_byte-requires c =
    let args = c.args in
    omega (arith, line-length args.word.now args.n [])

pub returns-clause-put : goal.returns-clause-put
unfolding spaced
returns-clause-put c =
    let args = c.args in
    put_last (put_next (next _ (line_feed ∷ []) (line-begins args.word.now args.n []) (all_left _ _ _)) c.put_named.ensures.put) c.put_byte.ensures.put
