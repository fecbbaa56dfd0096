-- `showing::Page::put_word` meets its contract: the bytes that are left are the rest of the text.
use mathlib.Core.Path.{refl}
use Prim.Native.Nat.{suc}
use borrow.Author.Rules.{rules}
use mathlib.Core.List.{[], ◌∷◌}
use native.Mathlib.Numerals.{add-one}
use lib.ListN.{get_or, drop, drop_of_length-le}
use lib.Seq.{drop-cons}
use Rattle.showing.proofs.Laws.{Next, all_left, next, room, put_next, all-put}
use Rattle.showing.proofs.Page.put_word.Goals as goal
use Rattle.showing.proofs.Page.put_word.Goals.{In-loop-byte}

pub loop-byte-init : goal.loop-byte-init
loop-byte-init c = (refl, all_left _ _ _)

-- the next byte is the first of what is left
more : (c : goal.In-loop-byte)
    → let args = c.args in
    let loop = c.loop-byte in
    Next args.self.now.out.now args.self.now.at args.word.now loop.self.out.now loop.self.at (get_or args.word.now loop.byte-index 0 ∷ []) (drop (suc loop.byte-index) args.word.now)
more c = next _ _ (drop-cons c.args.word.now c.loop-byte.byte-index 0 c.loop-byte-test.true) c.loop-byte.invariant.1

pub put_byte-requires : goal.put_byte-requires
put_byte-requires c = room (more (goal.at.put_byte-requires c).In-loop-byte) c.requires

pub loop-byte-preserved : goal.loop-byte-preserved
loop-byte-preserved c =
    (search rules, rw add-one (put_next (more (goal.at.loop-byte-preserved c).In-loop-byte) c.put_byte.ensures.put))

pub returns-clause-put : goal.returns-clause-put
returns-clause-put c =
    let loop = c.loop-byte in
    all-put (rw (drop_of_length-le c.args.word.now {i = loop.byte-index} c.loop-byte-test.false) at loop.invariant.1)
