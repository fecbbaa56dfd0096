-- `taskfile::preempter_count` meets its contract: it reads the header's number of preempters, which is as many as the task has.
use mathlib.Core.Path.{◌≡◌, sym, ◌∙◌}
use native.Mathlib.Omega.{arith}
use Rattle.taskfile.specs.File.{counts}
use Rattle.taskfile.proofs.Accepted.{accepted, preempter-count}
use Rattle.taskfile.proofs.preempter_count.Goals as goal

pub u16_at-requires : goal.u16_at-requires
u16_at-requires c = omega (arith, (accepted c.args.file.now c.requires).long)

pub returns : goal.returns
unfolding counts
returns c =
    let file = c.args.file.now in
    let r : c.u16_at.result ≡ (counts file).preempters = c.u16_at.ensures in
    let a = accepted file c.requires in
    (r ∙ sym (preempter-count file), omega arith)
