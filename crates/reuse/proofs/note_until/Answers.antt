-- `reuse::note_until` meets its contract. The loop's invariant: the readers are noted up to block i.
use mathlib.Core.Path.{◌≡◌}
use native.Mathlib.Omega.{arith}
use Rattle.taskfile.specs.File.{task_of}
use Rattle.taskfile.proofs.Accepted as accepted-file
use Rattle.reuse.proofs.Readers.{noted_more}
use Rattle.reuse.proofs.note_until.Goals as goal

pub loop-i-init : goal.loop-i-init
loop-i-init c =
    record { long = c.requires.readers_len.0; from = omega arith; to = c.requires.accepted.1; noted = λ k h w. w }

pub note_block-requires : goal.note_block-requires
note_block-requires c =
    record { readers_len = c.loop-i.invariant.long; accepted = (c.requires.accepted.0, omega arith, omega (arith, accepted-file.block-count c.args.file.now)); geometry_of = c.requires.accepted.2 }

pub loop-i-preserved : goal.loop-i-preserved
loop-i-preserved c =
    let file = c.args.file.now in
    let l = c.loop-i in
    noted_more (task_of file) l.i l.invariant (omega arith) c.note_block.ensures.readers_len_2
    (rw (accepted-file.reads_at file l.i (omega (arith, accepted-file.block-count file))) c.note_block.ensures.first_by)

pub returns : goal.returns
returns c =
    let end : c.loop-i.i ≡ c.block_count-blocks.result = omega arith in
    record { noted_to = rw end at c.loop-i.invariant; settled = λ z. omega arith }
