-- `taskfile::check` meets its contract: past the length's test there is a block.
use Prim.Native.Nat.{◌≤◌}
use mathlib.Core.Path.{sym, ◌∙◌}
use native.Mathlib.Omega.{arith}
use lib.ListN.{length}
use Rattle.taskfile.proofs.Accepted.{whole-blocks}
use Rattle.taskfile.proofs.check.Goals as goal
use Rattle.taskfile.proofs.check.Goals.{Else-not-length_right}

first : (c : goal.Else-not-length_right) → 512 ≤ length c.args.file.now
first c =
    let w = whole-blocks _ (sym c.length_right.ensures ∙ c.if-not-length_right.false) in
    omega arith

pub check_header-requires : goal.check_header-requires
check_header-requires c = first (goal.at.check_header-requires c).Else-not-length_right

pub check_blocks-requires : goal.check_blocks-requires
check_blocks-requires c = first (goal.at.check_blocks-requires c).Else-not-length_right
