-- `tracing::put_blocks` meets its contract. The loop's invariant: the first `i` blocks are appended.
use Prim.Native.Nat.{ℕ, ◌+◌, ◌-◌, ◌*◌}
use mathlib.Core.Path.{◌≡◌, ap, ◌∙◌}
use mathlib.Core.List.{List}
use native.Mathlib.Omega.{arith}
use native.Mathlib.Numerals.{add-one}
use lib.ListN.{length, length-take, length-drop}
use Rattle.block.specs.Blocks.{numbered}
use Rattle.taskfile.specs.File.{collect, basic_bytes}
use Rattle.writer.proofs.Laws.{appended-none}
use Rattle.tracing.specs.Traces.{blocks_for, traced_block, group_at, traced_blocks}
use Rattle.tracing.proofs.Groups.{group-length, inside, group-taken}
use Rattle.tracing.proofs.Files.{block_more}
use Rattle.tracing.proofs.Numbers.{smaller}
use Rattle.tracing.proofs.put_blocks.Goals as goal

pub loop-i-init : goal.loop-i-init
unfolding collect
loop-i-init c = appended-none 0 c.args.out.now

pub overflow_mul-from : goal.overflow_mul-from
overflow_mul-from c = let k = inside c.requires.traceable c.loop-i-test.true in omega arith

pub overflow_add-from : goal.overflow_add-from
overflow_add-from c = let k = inside c.requires.traceable c.loop-i-test.true in omega arith

pub overflow_add-start : goal.overflow_add-start
overflow_add-start c = let k = inside c.requires.traceable c.loop-i-test.true in omega arith

pub overflow_mul-start : goal.overflow_mul-start
overflow_mul-start c = let k = inside c.requires.traceable c.loop-i-test.true in omega arith

pub overflow_add-end : goal.overflow_add-end
overflow_add-end c = let k = inside c.requires.traceable c.loop-i-test.true in omega arith

pub overflow_cast-i : goal.overflow_cast-i
overflow_cast-i c = let k = inside c.requires.traceable c.loop-i-test.true in omega arith

pub overflow_add-i : goal.overflow_add-i
overflow_add-i c = let k = inside c.requires.traceable c.loop-i-test.true in omega arith

pub offset_bounds-addresses-from : goal.offset_bounds-addresses-from
offset_bounds-addresses-from c = let k = inside c.requires.traceable c.loop-i-test.true in omega arith

pub slice_bounds-put_block-count-in-loop-i : goal.slice_bounds-put_block-count-in-loop-i
slice_bounds-put_block-count-in-loop-i c = let to = c.min-to.ensures ∙ smaller (c.loop-i.i * c.args.settings.group + c.args.settings.group) (length c.args.addresses.now) in let k = inside c.requires.traceable c.loop-i-test.true in omega arith

pub slice_bounds-put_block-start-in-loop-i : goal.slice_bounds-put_block-start-in-loop-i
slice_bounds-put_block-start-in-loop-i c = let to = c.min-to.ensures ∙ smaller (c.loop-i.i * c.args.settings.group + c.args.settings.group) (length c.args.addresses.now) in let k = inside c.requires.traceable c.loop-i-test.true in omega arith

pub slice_bounds-put_block-end-in-loop-i : goal.slice_bounds-put_block-end-in-loop-i
slice_bounds-put_block-end-in-loop-i c = let to = c.min-to.ensures ∙ smaller (c.loop-i.i * c.args.settings.group + c.args.settings.group) (length c.args.addresses.now) in let k = inside c.requires.traceable c.loop-i-test.true in omega arith

pub put_block-requires : goal.put_block-requires
put_block-requires c =
    let args = c.args in
    let k = inside c.requires.traceable c.loop-i-test.true in
    let to = c.min-to.ensures ∙ smaller (c.loop-i.i * c.args.settings.group + c.args.settings.group) (length c.args.addresses.now) in
    let part = group-taken args.settings.group args.addresses.now c.loop-i.i _ k.begins to in
    let long = group-length args.settings.group args.addresses.now c.loop-i.i in
    record { block_len = (simp (length-take, length-drop) (omega arith), rw (part, long) (omega arith), k.size); ticks_len_bound = rw part k.time }

pub loop-i-preserved : goal.loop-i-preserved
loop-i-preserved c =
    let loop = c.loop-i in
    let args = c.args in
    let s = c.args.settings in
    let k = inside c.requires.traceable c.loop-i-test.true in
    let part = group-taken s.group args.addresses.now loop.i _ k.begins (c.min-to.ensures ∙ smaller (c.loop-i.i * c.args.settings.group + c.args.settings.group) (length c.args.addresses.now)) in
    let from = (1 + loop.i) * 512 in
    rw add-one (block_more (λ i. traced_block s (group_at s.group args.addresses.now i)) loop.i (from + 512 - from) args.out.now loop.out
    c.put_block.new.block (omega arith) (c.put_block.auto.block ∙ simp (length-take, length-drop) (omega arith)) loop.invariant
    (c.put_block.ensures ∙ ap (λ (g : List ℕ). numbered (1 + loop.i) (basic_bytes (traced_block s g))) part))

pub returns : goal.returns
unfolding traced_blocks
returns c =
    let loop = c.loop-i in
    let all : loop.i ≡ blocks_for (length c.args.addresses.now) c.args.settings.group = omega arith in
    rw (← all) loop.invariant
