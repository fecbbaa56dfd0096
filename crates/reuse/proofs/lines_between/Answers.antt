-- `reuse::lines_between` meets its contract: what is noted behind edge a is each line's next read, and a line beyond the cache is not useful.
use mathlib.Core.Path.{◌≡◌, refl, sym, ap₂, ◌∙◌}
use mathlib.Core.Logic.{by_cases}
use native.Mathlib.Decide.{dec_lt}
use native.Mathlib.Omega.{arith}
use borrow.Author.Tests.{lt-ltb, le-ltb}
use Rattle.model.specs.Task.{block_count}
use Rattle.model.specs.Lines.{same_block, useful}
use Rattle.model.proofs.LineStates.{useful-beyond}
use Rattle.taskfile.specs.File.{task_of}
use Rattle.reuse.proofs.FirstReads.{next-noted, union-noted}
use Rattle.reuse.proofs.lines_between.Goals as goal

pub first_lines-accessed-requires : goal.first_lines-accessed-requires
first_lines-accessed-requires c =
    record { first_len = refl; accepted = (c.requires.0, omega arith, omega arith, c.geometry_of-cache.ensures) }

pub first_lines-requires : goal.first_lines-requires
first_lines-requires c =
    let noted = c.first_lines-accessed.ensures in record { first_len = noted.long; accepted = (c.requires.0, omega (arith, c.requires.2, c.block_count.ensures), omega (arith, c.block_count.ensures), c.geometry_of-cache.ensures) }

pub reread_lines-requires : goal.reread_lines-requires
reread_lines-requires c =
    let noted = c.first_lines.ensures in
    (c.held_after-held.ensures.0, noted.long, c.geometry_of-cache.ensures.sound.most)

pub returns : goal.returns
unfolding useful
returns c =
    let t = task_of c.args.file.now in
    let of = c.geometry_of-cache.ensures in
    let count = c.geometry_of-cache.result.line_count in
    let held = c.held_after-held.ensures.1 in
    let noted = c.first_lines-accessed.ensures in
    let blocks : c.block_count.result ≡ block_count t = c.block_count.ensures.0 in
    let next = next-noted t c.args.a c.args.b c.requires.1 c.requires.2 noted (rw blocks at c.first_lines.ensures) in record {
      by_index = λ d.
          c.reread_lines.ensures d ∙
          by_cases (dec_lt d count) (λ h. rw (lt-ltb d count h) (ap₂ same_block (held d (omega (arith, of.sound.most))) (next d)))
          (λ h. rw (le-ltb d count (omega arith)) (sym (useful-beyond t (omega (arith, of.sound.some, of.count)) d (omega (arith, of.count)) c.args.a)));
      by_index_2 = union-noted t c.args.a c.args.b c.requires.1 c.requires.2 noted;
    }
