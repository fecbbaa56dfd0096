-- `showing::Page::put_limits` meets its contract: line by line.
use native.Mathlib.Omega.{arith}
use mathlib.Core.Path.{refl}
use mathlib.Core.List.{[], ◌∷◌}
use Rattle.showing.specs.Puts.{limits_text}
use Rattle.showing.specs.Text.{task_word, lines_word, limit_word, line_text}
use Rattle.showing.proofs.Laws.{all_left, next, put_next, put_last}
use Rattle.showing.proofs.Lines.{limits-length}
use Rattle.showing.proofs.Page.put_limits.Goals as goal

pub put_setting-requires : goal.put_setting-requires
put_setting-requires c = omega (arith, limits-length c.args.header)

pub put_setting-requires-2 : goal.put_setting-requires-2
put_setting-requires-2 c = omega (arith, limits-length c.args.header)

pub put_setting-requires-3 : goal.put_setting-requires-3
put_setting-requires-3 c = omega (arith, limits-length c.args.header)

pub put_setting-requires-4 : goal.put_setting-requires-4
put_setting-requires-4 c = omega (arith, limits-length c.args.header)

pub returns-clause-put : goal.returns-clause-put
unfolding limits_text
returns-clause-put c =
    let h = c.args.header in
    let task = put_next (next (line_text task_word (h.id ∷ [])) _ refl (all_left _ _ _)) c.put_setting.ensures.put in
    let lines = put_next (next (line_text lines_word (h.line_count ∷ [])) _ refl task) c.put_setting-2.ensures.put in
    let limit = put_next (next (line_text limit_word (h.limit ∷ [])) _ refl lines) c.put_setting-3.ensures.put in
    put_last limit c.put_setting-4.ensures.put
