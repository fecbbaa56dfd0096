-- `showing::put_text` meets its contract: the header, the basic blocks and the preempters.
use borrow.Author.Rules.{rules}
use native.Mathlib.Omega.{arith}
use mathlib.Core.Path.{refl, ap}
use lib.ListN.{length}
use Rattle.model.specs.declared.Header.{Header}
use Rattle.taskfile.specs.File.{task_of}
use Rattle.showing.specs.Text.{header_text, blocks_text, preempters_text, text_of}
use Rattle.showing.proofs.Laws.{all_left, next, put_next, put_last, left_so}
use Rattle.showing.proofs.Lengths.{text-length, text-room}
use Rattle.showing.proofs.put_text.Goals as goal

pub put_header-requires : goal.put_header-requires
put_header-requires c =
    let file = c.args.file.now in
    let head = c.header.ensures.0 in
    rw head (omega (arith, text-length (task_of file), text-room file c.requires))

pub put_blocks-requires : goal.put_blocks-requires
put_blocks-requires c =
    let file = c.args.file.now in
    let head = ap (λ (h : Header). length (header_text h)) c.header.ensures.0 in
    record { accepted = c.requires; room = omega (arith, text-length (task_of file), text-room file c.requires, head) }

pub put_preempters-requires : goal.put_preempters-requires
put_preempters-requires c =
    let file = c.args.file.now in
    let head = ap (λ (h : Header). length (header_text h)) c.header.ensures.0 in
    record { accepted = c.requires; room = omega (arith, text-length (task_of file), text-room file c.requires, head) }

pub returns : goal.returns
unfolding text_of
returns c =
    let t = task_of c.args.file.now in
    let header = put_next (next (header_text t.header) _ refl (all_left _ _ _)) (rw c.header.ensures.0 at c.put_header.ensures.put) in
    let blocks = put_next (next (blocks_text t.blocks) (preempters_text t.preempters) refl header) c.put_blocks.ensures.put in
    left_so (put_last blocks c.put_preempters.ensures.put) (search rules)
