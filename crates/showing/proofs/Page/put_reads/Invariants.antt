-- The reads that are left are the rest of the text.
use mathlib.Core.Path.{◌≡◌}
use Rattle.std.proofs.Common.{drop}
use Rattle.taskfile.specs.File.{entry_reads}
use Rattle.showing.specs.Text.{spaced}
use Rattle.showing.proofs.Laws.{Left}
use Rattle.showing.proofs.Page.put_reads.Given as goal

abbrev pub invariant-loop-j : goal.invariant-loop-j
invariant-loop-j l =
    let reads = entry_reads l.file l.k in
    (l.self.out.ghost_name ≡ l.fn.self.out.ghost_name) × Left l.fn.self.out.now l.fn.self.at (spaced reads) l.self.out.now l.self.at (spaced (drop l.j reads))
