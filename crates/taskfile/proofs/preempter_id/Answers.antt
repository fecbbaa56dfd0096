-- `taskfile::preempter_id` meets its contract: preempter i of an accepted file is block N + 1 + i.
use Prim.Native.Nat.{◌+◌, ◌*◌, ◌<◌, ◌≤◌}
use mathlib.Core.Path.{◌≡◌, sym, ap, ◌∙◌}
use native.Mathlib.Omega.{arith}
use lib.ListN.{length}
use Rattle.model.specs.Task.{Preempter}
use Rattle.taskfile.specs.File.{counts, preempter_of}
use Rattle.taskfile.proofs.Accepted.{accepted, field_in, block-count, preempter-count, preempter-at}
use Rattle.taskfile.proofs.preempter_id.Goals as goal
use Rattle.taskfile.proofs.preempter_id.Goals.{After-block_count}

-- the task has the preempter, and the file the block
inside : (c : goal.After-block_count)
    → let file = c.args.file.now in
    let i = c.args.i in
    (i < (counts file).preempters) × ((c.block_count.result + 1 + i) * 512 + 512 ≤ length file)
inside c =
    let file = c.args.file.now in
    let a = accepted file c.requires.0 in
    (omega (arith, c.requires.1, preempter-count file), omega (arith, c.requires.1, preempter-count file, block-count file, a.long, c.block_count.ensures))

pub overflow_add-k-2 : goal.overflow_add-k-2
overflow_add-k-2 c = let h = inside (goal.at.overflow_add-k-2 c).After-block_count in omega (arith, (accepted c.args.file.now c.requires.0).preempters-most)

pub overflow_mul-k : goal.overflow_mul-k
overflow_mul-k c = let h = inside (goal.at.overflow_mul-k c).After-block_count in omega (arith, (accepted c.args.file.now c.requires.0).preempters-most)

pub overflow_add-k-3 : goal.overflow_add-k-3
overflow_add-k-3 c = let h = inside (goal.at.overflow_add-k-3 c).After-block_count in omega (arith, (accepted c.args.file.now c.requires.0).preempters-most)

pub u32_at-requires : goal.u32_at-requires
u32_at-requires c = let h = inside (goal.at.u32_at-requires c).After-block_count in omega arith

pub returns : goal.returns
unfolding preempter_of
returns c =
    let file = c.args.file.now in
    let i = c.args.i in
    let there : c.block_count.result + 1 + i ≡ 1 + (counts file).blocks + i = omega (arith, block-count file, c.block_count.ensures) in
    c.u32_at.ensures ∙ sym (field_in file (c.block_count.result + 1 + i) 4 4 (omega arith)) ∙
    rw there (ap (λ (p : Preempter). p.id) (sym (preempter-at file i (inside (goal.at.returns c).After-block_count).0)))
