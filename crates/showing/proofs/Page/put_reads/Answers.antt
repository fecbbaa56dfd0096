-- `showing::Page::put_reads` meets its contract: the numbers that are left are the rest of the text.
use mathlib.Core.Path.{refl}
use native.Mathlib.Omega.{arith}
use Prim.Native.Nat.{suc}
use borrow.Author.Rules.{rules}
use mathlib.Core.List.{◌∷◌}
use native.Mathlib.Numerals.{add-one}
use lib.ListN.{get_or, drop, drop_of_length-le}
use Rattle.decimals.specs.Decimals.{spelled}
use Rattle.taskfile.specs.File.{entry_reads}
use Rattle.showing.specs.Text.{space, spaced}
use Rattle.showing.proofs.Laws.{Next, all_left, next, room, put_next, all-put}
use Rattle.showing.proofs.Lines.{spaced-next}
use Rattle.showing.proofs.Page.put_reads.Goals as goal
use Rattle.showing.proofs.Page.put_reads.Goals.{In-loop-j}

pub loop-j-init : goal.loop-j-init
loop-j-init c = (refl, all_left _ _ _)

pub read-requires : goal.read-requires
read-requires c = record { accepted = c.requires.accepted; j_in_bounds = omega arith }

-- the next number is the first of what is left
more : (c : goal.In-loop-j)
    → let args = c.args in
    let loop = c.loop-j in
    let reads = entry_reads args.file.now args.k in
    Next args.self.now.out.now args.self.now.at (spaced reads) loop.self.out.now loop.self.at (space ∷ spelled (get_or reads loop.j 0)) (spaced (drop (suc loop.j) reads))
more c = next _ _ (spaced-next _ c.loop-j.j (omega arith)) c.loop-j.invariant.1

pub put_spaced-requires : goal.put_spaced-requires
put_spaced-requires c = rw c.read.ensures (room (more (goal.at.put_spaced-requires c).In-loop-j) c.requires.room)

pub loop-j-preserved : goal.loop-j-preserved
loop-j-preserved c =
    let put = rw c.read.ensures at c.put_spaced.ensures.put in
    (search rules, rw add-one (put_next (more (goal.at.loop-j-preserved c).In-loop-j) put))

pub returns-clause-put : goal.returns-clause-put
unfolding spaced
returns-clause-put c =
    let args = c.args in
    let loop = c.loop-j in
    all-put (rw (drop_of_length-le (entry_reads args.file.now args.k) {i = loop.j} (omega arith)) at loop.invariant.1)
