-- `showing::Page::put_preempters` meets its contract: the preempters that are left are the rest of the text.
use borrow.Author.Rules.{rules}
use mathlib.Core.Path.{refl}
use native.Mathlib.Omega.{arith}
use Prim.Native.Nat.{suc}
use native.Mathlib.Numerals.{add-one}
use lib.ListN.{get_or, drop, drop_of_length-le}
use Rattle.model.specs.Task.{no_preempter}
use Rattle.taskfile.specs.File.{task_of}
use Rattle.showing.specs.Text.{preempter_text, preempters_text}
use Rattle.showing.proofs.Laws.{Next, all_left, next, room, put_next, all-put}
use Rattle.showing.proofs.Entries.{preempters-next}
use Rattle.showing.proofs.Page.put_preempters.Goals as goal
use Rattle.showing.proofs.Page.put_preempters.Goals.{In-loop-i}

pub preempter_count-count-requires : goal.preempter_count-count-requires
preempter_count-count-requires c = c.requires.accepted

pub loop-i-init : goal.loop-i-init
loop-i-init c = (refl, all_left _ _ _)

-- the next preempter is the first of what is left
more : (c : goal.In-loop-i)
    → let args = c.args in
    let loop = c.loop-i in
    let all = (task_of args.file.now).preempters in
    Next args.self.now.out.now args.self.now.at (preempters_text all) loop.self.out.now loop.self.at (preempter_text (get_or all loop.i no_preempter)) (preempters_text (drop (suc loop.i) all))
more c = next _ _ (preempters-next _ c.loop-i.i (omega arith)) c.loop-i.invariant.1

pub put_preempter-requires : goal.put_preempter-requires
put_preempter-requires c = record { accepted = (c.requires.accepted, omega arith); room = room (more (goal.at.put_preempter-requires c).In-loop-i) c.requires.room }

pub loop-i-preserved : goal.loop-i-preserved
loop-i-preserved c = (search rules, rw add-one (put_next (more (goal.at.loop-i-preserved c).In-loop-i) c.put_preempter.ensures.put))

pub returns-clause-put : goal.returns-clause-put
unfolding preempters_text
returns-clause-put c =
    let loop = c.loop-i in
    all-put (rw (drop_of_length-le (task_of c.args.file.now).preempters {i = loop.i} (omega arith)) at loop.invariant.1)
