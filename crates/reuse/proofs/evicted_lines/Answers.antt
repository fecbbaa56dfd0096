-- `reuse::evicted_lines` meets its contract: no line beyond the cache is evicted.
use mathlib.Core.Path.{sym, ◌∙◌}
use mathlib.Core.Logic.{by_cases}
use native.Mathlib.Decide.{dec_lt}
use native.Mathlib.Omega.{arith}
use borrow.Author.Tests.{lt-ltb, le-ltb}
use Rattle.model.proofs.LineStates.{evicted-beyond}
use Rattle.taskfile.specs.File.{task_of}
use Rattle.reuse.proofs.evicted_lines.Goals as goal

pub returns : goal.returns
returns c =
    let cache = c.geometry_of-cache in
    let file = c.args.file.now in
    let of = c.geometry_of-cache.ensures in
    λ d.
    c.marked_lines.ensures d ∙
    by_cases (dec_lt d cache.result.line_count) (λ h. rw (lt-ltb d cache.result.line_count h) (c.mark_evicted.ensures.by_index d))
    (λ h.
    rw (le-ltb d cache.result.line_count (omega arith))
    (sym (evicted-beyond (task_of file) (omega (arith, of.sound.some, of.count)) d (omega (arith, of.count)))))
