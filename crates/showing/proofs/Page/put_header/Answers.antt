-- `showing::Page::put_header` meets its contract: line by line.
use native.Mathlib.Omega.{arith}
use mathlib.Core.Path.{refl}
use mathlib.Core.List.{[], ◌∷◌}
use Rattle.showing.specs.Puts.{limits_text}
use Rattle.showing.specs.Text.{reload_word, switch_word, line_text}
use Rattle.showing.proofs.Laws.{all_left, next, put_next, put_last}
use Rattle.showing.proofs.Lines.{header-begins, header-length}
use Rattle.showing.proofs.Page.put_header.Goals as goal

pub put_limits-requires : goal.put_limits-requires
put_limits-requires c = omega (arith, header-length c.args.header)

pub put_setting-requires : goal.put_setting-requires
put_setting-requires c = omega (arith, header-length c.args.header)

pub put_setting-requires-2 : goal.put_setting-requires-2
put_setting-requires-2 c = omega (arith, header-length c.args.header)

pub put_scratch-requires : goal.put_scratch-requires
put_scratch-requires c = omega (arith, header-length c.args.header)

pub returns-clause-put : goal.returns-clause-put
returns-clause-put c =
    let h = c.args.header in
    let limits = put_next (next (limits_text h) _ (header-begins h) (all_left _ _ _)) c.put_limits.ensures.put in
    let reload = put_next (next (line_text reload_word (h.reload ∷ [])) _ refl limits) c.put_setting.ensures.put in
    let switch = put_next (next (line_text switch_word (h.switch ∷ [])) _ refl reload) c.put_setting-2.ensures.put in
    put_last switch c.put_scratch.ensures.put
