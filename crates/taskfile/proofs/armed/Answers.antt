-- `taskfile::armed` meets its contract: block k of an accepted file is basic block k of the task, which its list has at k - 1.
use Prim.Native.Nat.{◌+◌, ◌-◌, ◌*◌, ◌<◌, ◌≤◌}
use mathlib.Core.Path.{◌≡◌, sym, ap, ◌∙◌}
use native.Mathlib.Omega.{arith}
use lib.Dec.{eqb}
use lib.ListN.{length}
use Rattle.model.specs.Task.{Block}
use Rattle.block.proofs.Bytes.{field-byte}
use Rattle.taskfile.specs.File.{counts, basic_of}
use Rattle.taskfile.proofs.Accepted.{accepted, field_in, block-count, block-at}
use Rattle.taskfile.proofs.armed.Goals as goal
use Rattle.taskfile.proofs.armed.Goals.{Start}

-- the task has the block, and the file
inside : (c : goal.Start) → (c.args.k - 1 < (counts c.args.file.now).blocks) × (c.args.k * 512 + 512 ≤ length c.args.file.now)
inside c =
    let file = c.args.file.now in
    let a = accepted file c.requires.0 in
    (omega (arith, block-count file), omega (arith, block-count file))

pub overflow_mul-result : goal.overflow_mul-result
overflow_mul-result c = let h = inside (goal.at.overflow_mul-result c).Start in omega arith

pub overflow_add-result : goal.overflow_add-result
overflow_add-result c = let h = inside (goal.at.overflow_add-result c).Start in omega arith

pub bounds-file-k : goal.bounds-file-k
bounds-file-k c = let h = inside (goal.at.bounds-file-k c).Start in omega arith

pub returns : goal.returns
unfolding basic_of
returns c =
    let file = c.args.file.now in
    let k = c.args.k in
    let same : 1 + (k - 1) ≡ k = omega arith in
    let h = inside (goal.at.returns c).Start in
    ap (λ x. eqb x 1) (sym (field-byte file (k * 512 + 1) (omega arith)) ∙ sym (field_in file k 1 1 (omega arith))) ∙
    rw same at (ap (λ (b : Block). b.armed) (sym (block-at file (k - 1) h.0)))
