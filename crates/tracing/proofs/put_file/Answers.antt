-- `tracing::put_file` meets its contract: the file is stored in the first bytes of the output.
use native.Mathlib.Omega.{arith}
use Rattle.tracing.proofs.Groups.{known}
use Rattle.tracing.proofs.Files.{length-traced}
use Prim.Native.Nat.{ℕ, ◌+◌, ◌*◌}
use mathlib.Core.Path.{sym, ap, ◌∙◌}
use mathlib.Core.List.{List, ◌++◌}
use lib.ListN.{drop, length-take}
use Rattle.tracing.proofs.put_file.Goals as goal

pub blocks_for-blocks-requires : goal.blocks_for-blocks-requires
blocks_for-blocks-requires c = let k = known _ _ c.requires.0 in (k.group-least, k.group-most, omega arith)

pub overflow_add-size : goal.overflow_add-size
overflow_add-size c = let k = known _ _ c.requires.0 in omega arith

pub overflow_mul-size : goal.overflow_mul-size
overflow_mul-size c = let k = known _ _ c.requires.0 in omega arith

pub slice_bounds-put_task-end : goal.slice_bounds-put_task-end
slice_bounds-put_task-end c = let k = known _ _ c.requires.0 in omega arith

pub slice_bounds-put_task-end-2 : goal.slice_bounds-put_task-end-2
slice_bounds-put_task-end-2 c = let k = known _ _ c.requires.0 in simp length-take (omega arith)

pub put_task-requires : goal.put_task-requires
put_task-requires c =
    let fits = c.requires.0 in
    let k = known _ _ fits in
    record { traceable = (fits, c.blocks_for-blocks.ensures); out_len = simp length-take (omega arith) }

pub returns : goal.returns
returns c =
    let blocks = c.blocks_for-blocks in
    let size = 512 * (1 + blocks.result) in
    let k = known _ _ c.requires.0 in record { value = ap (λ (n : ℕ). 512 * (1 + n)) blocks.ensures ∙ sym (length-traced c.args.settings c.args.addresses.now k.group-most); out_after = ap (λ (file : List ℕ). file ++ drop size c.args.out.now) c.put_task.ensures }
