-- `taskfile::read` meets its contract: number j of block k stands 8 + 4 * j bytes into the block, and an accepted file has the block.
use Prim.Native.Nat.{◌+◌, ◌*◌, ◌≤◌, ◌<◌}
use mathlib.Core.Path.{sym, ◌∙◌}
use native.Mathlib.Nat.{add_assoc}
use lib.ListN.{length}
use native.Mathlib.Omega.{arith}
use Rattle.taskfile.proofs.Accepted.{accepted, field_in, length-reads, read-in}
use Rattle.taskfile.proofs.read.Goals as goal
use Rattle.taskfile.proofs.read.Goals.{Start}

-- the number lies in the block, and the block in the file
inside : (c : goal.Start) → (c.args.j < 124) × (c.args.k * 512 + 512 ≤ length c.args.file.now)
inside c =
    let file = c.args.file.now in
    let a = accepted file c.requires.accepted.0 in
    let most = a.count_most c.args.k c.requires.accepted.1 c.requires.accepted.2 in
    (omega (arith, length-reads file c.args.k), omega arith)

pub overflow_mul-k : goal.overflow_mul-k
overflow_mul-k c = let h = inside (goal.at.overflow_mul-k c).Start in omega arith

pub overflow_add-k : goal.overflow_add-k
overflow_add-k c = let h = inside (goal.at.overflow_add-k c).Start in omega arith

pub overflow_mul-j : goal.overflow_mul-j
overflow_mul-j c = let h = inside (goal.at.overflow_mul-j c).Start in omega arith

pub overflow_add-k-2 : goal.overflow_add-k-2
overflow_add-k-2 c = let h = inside (goal.at.overflow_add-k-2 c).Start in omega arith

pub u32_at-requires : goal.u32_at-requires
u32_at-requires c = let h = inside (goal.at.u32_at-requires c).Start in omega arith

pub returns : goal.returns
returns c =
    let file = c.args.file.now in
    let k = c.args.k in
    let j = c.args.j in
    let h = inside (goal.at.returns c).Start in
    c.u32_at.ensures ∙ rw add_assoc (sym (read-in file k j c.requires.j_in_bounds ∙ field_in file k (8 + 4 * j) 4 (omega arith)))
