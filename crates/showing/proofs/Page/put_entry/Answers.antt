-- `showing::Page::put_entry` meets its contract: the word with the first number, the others, and the line feed.
use native.Mathlib.Omega.{arith}
use mathlib.Core.Path.{refl}
use mathlib.Core.List.{[], ◌∷◌}
use Rattle.taskfile.specs.File.{entry_reads}
use Rattle.showing.specs.Text.{line_feed, spaced}
use Rattle.showing.proofs.Laws.{all_left, next, put_next, put_last}
use Rattle.showing.proofs.Lines.{line-begins, line-length}
use Rattle.showing.proofs.Page.put_entry.Goals as goal

pub put_named-requires : goal.put_named-requires
put_named-requires c = omega (arith, line-length c.args.word.now c.args.n (entry_reads c.args.file.now c.args.k))

pub put_reads-requires : goal.put_reads-requires
put_reads-requires c = record { accepted = c.requires.accepted; room = omega (arith, line-length c.args.word.now c.args.n (entry_reads c.args.file.now c.args.k)) }

pub put_byte-requires : goal.put_byte-requires
put_byte-requires c = omega (arith, line-length c.args.word.now c.args.n (entry_reads c.args.file.now c.args.k))

pub returns-clause-put : goal.returns-clause-put
returns-clause-put c =
    let args = c.args in
    let reads = entry_reads args.file.now args.k in
    let named = put_next (next _ _ (line-begins args.word.now args.n reads) (all_left _ _ _)) c.put_named.ensures.put in
    put_last (put_next (next (spaced reads) (line_feed ∷ []) refl named) c.put_reads.ensures.put) c.put_byte.ensures.put
