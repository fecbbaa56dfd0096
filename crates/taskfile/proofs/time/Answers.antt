-- `taskfile::time` meets its contract: block k of an accepted file is basic block k of the task, which its list has at k - 1.
use Prim.Native.Nat.{◌+◌, ◌-◌, ◌*◌, ◌<◌, ◌≤◌}
use mathlib.Core.Path.{◌≡◌, sym, ap, ◌∙◌}
use native.Mathlib.Omega.{arith}
use lib.ListN.{length}
use Rattle.model.specs.Task.{Block}
use Rattle.taskfile.specs.File.{counts, basic_of}
use Rattle.taskfile.proofs.Accepted.{accepted, field_in, block-count, block-at}
use Rattle.taskfile.proofs.time.Goals as goal
use Rattle.taskfile.proofs.time.Goals.{Start}

-- the task has the block, and the file
inside : (c : goal.Start) → (c.args.k - 1 < (counts c.args.file.now).blocks) × (c.args.k * 512 + 512 ≤ length c.args.file.now)
inside c =
    let file = c.args.file.now in
    let a = accepted file c.requires.0 in
    (omega (arith, block-count file), omega (arith, block-count file))

pub overflow_mul-k : goal.overflow_mul-k
overflow_mul-k c = let h = inside (goal.at.overflow_mul-k c).Start in omega arith

pub overflow_add-k : goal.overflow_add-k
overflow_add-k c = let h = inside (goal.at.overflow_add-k c).Start in omega arith

pub u32_at-requires : goal.u32_at-requires
u32_at-requires c = let h = inside (goal.at.u32_at-requires c).Start in omega arith

pub returns : goal.returns
unfolding basic_of
returns c =
    let file = c.args.file.now in
    let k = c.args.k in
    let same : 1 + (k - 1) ≡ k = omega arith in
    c.u32_at.ensures ∙ sym (field_in file k 4 4 (omega arith)) ∙
    rw same at (ap (λ (b : Block). b.time) (sym (block-at file (k - 1) (inside (goal.at.returns c).Start).0)))
