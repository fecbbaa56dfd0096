-- `reuse::first_lines` meets its contract. The loop's invariant: the reads of the blocks passed are noted.
use Prim.Native.Nat.{◌+◌, ◌-◌, ◌<◌}
use mathlib.Core.Path.{◌≡◌, refl, ◌∙◌}
use mathlib.Core.List.{◌++◌}
use native.Mathlib.Omega.{arith}
use lib.ListN.{take, drop}
use Rattle.model.specs.Task.{block_count}
use Rattle.model.specs.Lines.{reads_of}
use Rattle.taskfile.specs.File.{task_of, entry_reads}
use Rattle.taskfile.proofs.Accepted as accepted-file
use Rattle.reuse.proofs.FirstReads.{noted-none, noted-append, block_more}
use Rattle.reuse.proofs.first_lines.Goals as goal

pub loop-k-init : goal.loop-k-init
unfolding reads_of
loop-k-init c =
    let none : c.args.a - c.args.a ≡ 0 = omega arith in
    rw none (noted-none _ c.requires.first_len c.empty-lines.ensures)

pub first_lines_in-requires : goal.first_lines_in-requires
first_lines_in-requires c =
    let noted = c.loop-k.invariant in record { first_len = noted.long; accepted = (c.requires.accepted.0, omega arith, omega (arith, c.requires.accepted.2, accepted-file.block-count c.args.file.now)); geometry_of = c.requires.accepted.3 }

pub loop-k-preserved : goal.loop-k-preserved
loop-k-preserved c =
    let file = c.args.file.now in
    let t = task_of file in
    let l = c.loop-k in
    let inside : l.k < block_count t = omega (arith, c.requires.accepted.2) in
    let more : reads_of (take (l.k + 1 - c.args.a) (drop c.args.a t.blocks))
    ≡ reads_of (take (l.k - c.args.a) (drop c.args.a t.blocks)) ++ entry_reads file (l.k + 1) =
    block_more t c.args.a l.k (omega arith) inside ∙
    rw (accepted-file.reads_at file l.k (omega (arith, accepted-file.block-count file))) refl in
    rw more (noted-append t _ _ c.union-lines.ensures l.invariant c.first_lines_in.ensures)

pub returns : goal.returns
returns c =
    let l = c.loop-k in
    let end : l.k ≡ c.args.b = omega arith in
    rw end at l.invariant
