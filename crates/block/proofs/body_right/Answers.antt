-- `block::body_right` meets its contract: the test of the body is the four tests of the code.
use mathlib.Core.Path.{◌≡◌}
use mathlib.Core.Bool.{◌&&◌}
use lib.Dec.{eqb}
use lib.ListN.{get_or}
use borrow.Author.Rules.{rules}
use Rattle.block.specs.Bytes.{AllBytes, field, zeros_between}
use Rattle.block.specs.Blocks.{body_right, framed}
use Rattle.block.proofs.Blocks.{body-frame}
use Rattle.block.proofs.body_right.Goals as goal
use Rattle.block.proofs.body_right.Goals.{Start}

tests : (c : Start) → AllBytes c.args.block.now
    → let args = c.args in
    let bs = c.args.block.now in
    body_right args.number (framed args.kind c.args.byte_1 args.end bs) bs
    ≡ (eqb (get_or bs 0 0) args.kind && eqb (get_or bs 1 0) c.args.byte_1 && zeros_between bs args.end 504 && eqb (field bs 504 4) args.number)
tests c h =
    let args = c.args in
    body-frame args.number args.kind c.args.byte_1 args.end args.block.now h
    c.requires.block_len c.requires.le_end.0 c.requires.le_end.1 c.ranges.kind.fits c.ranges.byte_1.fits c.ranges.number.fits

pub returns-then-zero_between : goal.returns-then-zero_between
returns-then-zero_between c =
    let whole = tests (goal.at.returns-then-zero_between c).Start (λ i _. (c.type_inv.block i).fits) in
    rw whole (search rules)

pub returns-else-zero_between : goal.returns-else-zero_between
returns-else-zero_between c =
    let whole = tests (goal.at.returns-else-zero_between c).Start (λ i _. (c.type_inv.block i).fits) in
    rw whole (search rules)
