-- `joining::put_joined` meets its contract: the basic blocks of both are copied, and the preempter blocks behind them, and the file is closed.
use Prim.Native.Nat.{◌+◌, ◌*◌, ◌≤◌}
use mathlib.Core.Path.{◌≡◌, sym, ◌∙◌}
use mathlib.Core.List.{map}
use native.Mathlib.Nat.{zero-add}
use native.Mathlib.Omega.{arith}
use lib.ListN.{length, length-map}
use borrow.Author.Rules.{rules}
use Rattle.model.specs.Task.{block_count}
use Rattle.taskfile.specs.File.{basic_bytes, preempter_bytes, task_of}
use Rattle.writer.proofs.Laws.{appended-both, task-closed}
use Rattle.joining.specs.Joining.{joined}
use Rattle.joining.proofs.Tasks.{count-joined, preempters-joined}
use Rattle.joining.proofs.Parts.{basics-length, preempters-length, basics-appended, preempters-appended}
use Rattle.joining.proofs.put_joined.Goals as goal
use Rattle.joining.proofs.put_joined.Goals.{Start}

-- the buffer has room for all parts
room : (c : goal.Start) → let t = task_of c.args.first.now in
    let u = task_of c.args.second.now in
    let out = length c.args.out.now in
    (out ≡ 512 * (1 + c.args.blocks) + 512 * (length t.preempters + length u.preempters)) × (c.args.blocks ≡ block_count t + block_count u) × (out ≤ 49664)
room c =
    let t = task_of c.args.first.now in
    let u = task_of c.args.second.now in
    let totals = c.requires.totals in
    let n = totals.blocks ∙ count-joined t u in
    let m = totals.preempters ∙ preempters-joined t u in
    (omega (arith, m), n, omega (arith, totals.fit))

pub copy_both-requires : goal.copy_both-requires
copy_both-requires c =
    let sizes = room (goal.at.copy_both-requires c).Start in
    let one = basics-length _ _ c.basic_blocks.ensures (search rules) in
    let other = basics-length _ _ c.basic_blocks-2.ensures (search rules) in
    record { source_len = (omega (arith, one), omega (arith, other)); other_in_bounds = (omega (arith, one, other, sizes), omega (arith, sizes)) }

pub copy_both-requires-2 : goal.copy_both-requires-2
copy_both-requires-2 c =
    let sizes = room (goal.at.copy_both-requires-2 c).Start in
    let one = preempters-length _ _ c.preempter_blocks.ensures (search rules) in
    let other = preempters-length _ _ c.preempter_blocks-2.ensures (search rules) in
    record { source_len = (omega (arith, one), omega (arith, other)); other_in_bounds = (omega (arith, one, other, sizes, c.copy_both.auto.out), omega (arith, sizes, c.copy_both.auto.out)) }

pub returns : goal.returns
returns c =
    let args = c.args in
    let first = c.args.first.now in
    let second = c.args.second.now in
    let t = joined (task_of first) (task_of second) in
    let totals = c.requires.totals in
    let bs = map basic_bytes t.blocks in
    let ps = map preempter_bytes t.preempters in
    let behind : args.blocks ≡ 0 + length bs = totals.blocks ∙ sym (length-map t.blocks basic_bytes) ∙ sym (zero-add (length bs)) in
    let a = basics-appended first second c.requires.accepted.0 c.requires.accepted.1 0 _ _ args.out.now c.copy_both.new.out c.copy_both.ensures
    c.basic_blocks.ensures c.basic_blocks-2.ensures in
    let b = preempters-appended first second c.requires.accepted.0 c.requires.accepted.1 args.blocks _ _ c.copy_both.new.out c.copy_both-2.new.out
    c.copy_both-2.ensures c.preempter_blocks.ensures c.preempter_blocks-2.ensures in
    c.close_file.ensures ∙
    rw c.joined_header-header.ensures
    (task-closed t args.blocks args.preempters args.out.now c.copy_both-2.new.out totals.blocks totals.preempters
    (appended-both 0 bs ps args.out.now c.copy_both.new.out c.copy_both-2.new.out a (rw behind at b)))
