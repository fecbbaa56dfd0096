-- `showing::Page::put_scratch` meets its contract: the word with the first number, the second, and the line feed.
use native.Mathlib.Omega.{arith}
use Prim.Native.Nat.{ℕ}
use mathlib.Core.Path.{ap}
use mathlib.Core.List.{List, [], ◌∷◌, ◌++◌}
use lib.ListN.{length}
use Rattle.decimals.specs.Decimals.{spelled}
use Rattle.showing.specs.Text.{space, line_feed, scratch_word}
use Rattle.showing.proofs.Lines.{line-begins, line-length, one-spaced}
use Rattle.showing.proofs.Laws.{all_left, next, put_next, put_last}
use Rattle.showing.proofs.Page.put_scratch.Goals as goal

pub put_named-requires : goal.put_named-requires
put_named-requires c =
    let range = c.args.range in
    omega (arith, line-length scratch_word range.first (range.count ∷ []), ap length (one-spaced range.count))

pub put_spaced-requires : goal.put_spaced-requires
put_spaced-requires c =
    let range = c.args.range in
    omega (arith, line-length scratch_word range.first (range.count ∷ []), ap length (one-spaced range.count))

pub put_byte-requires : goal.put_byte-requires
put_byte-requires c =
    let range = c.args.range in
    omega (arith, line-length scratch_word range.first (range.count ∷ []), ap length (one-spaced range.count))

pub returns-clause-put : goal.returns-clause-put
returns-clause-put c =
    let range = c.args.range in
    let first = put_next (next _ _ (line-begins scratch_word range.first (range.count ∷ [])) (all_left _ _ _)) c.put_named.ensures.put in
    let second = put_next (next (space ∷ spelled range.count) (line_feed ∷ []) (ap (λ (l : List ℕ). l ++ (line_feed ∷ [])) (one-spaced range.count)) first) c.put_spaced.ensures.put in
    put_last second c.put_byte.ensures.put
