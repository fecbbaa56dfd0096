-- `taskfile::header` meets its contract: an accepted file has a header, and its S is in range.
use mathlib.Core.Path.{refl}
use native.Mathlib.Omega.{arith}
use Rattle.taskfile.specs.File.{task_of}
use Rattle.taskfile.proofs.Accepted.{accepted}
use Rattle.taskfile.proofs.header.Goals as goal

pub read_header-requires : goal.read_header-requires
read_header-requires c = omega (arith, (accepted c.args.file.now c.requires).long)

pub returns : goal.returns
unfolding task_of
returns c =
    let a = accepted c.args.file.now c.requires in
    rw c.read_header.ensures (refl, a.lines-least, a.lines-most)
