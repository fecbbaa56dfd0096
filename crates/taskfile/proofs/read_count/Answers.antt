-- `taskfile::read_count` meets its contract: it reads the block's count, and an accepted file has the block.
use Prim.Native.Nat.{◌≤◌}
use mathlib.Core.Path.{◌≡◌, sym, ◌∙◌}
use native.Mathlib.Omega.{arith}
use Rattle.block.specs.Bytes.{field}
use Rattle.taskfile.specs.File.{block_in}
use Rattle.taskfile.proofs.Accepted.{accepted, field_in, length-reads}
use Rattle.taskfile.proofs.read_count.Goals as goal

pub overflow_mul-k : goal.overflow_mul-k
overflow_mul-k c = let a = accepted c.args.file.now c.requires.0 in omega arith

pub overflow_add-k : goal.overflow_add-k
overflow_add-k c = let a = accepted c.args.file.now c.requires.0 in omega arith

pub u16_at-requires : goal.u16_at-requires
u16_at-requires c = let a = accepted c.args.file.now c.requires.0 in omega arith

pub returns : goal.returns
returns c =
    let file = c.args.file.now in
    let k = c.args.k in
    let r : c.u16_at.result ≡ field (block_in file k) 2 2 = c.u16_at.ensures ∙ sym (field_in file k 2 2 (omega arith)) in
    let most : field (block_in file k) 2 2 ≤ 124 = (accepted file c.requires.0).count_most k c.requires.1 c.requires.2 in
    (r ∙ sym (length-reads file k), omega arith)
