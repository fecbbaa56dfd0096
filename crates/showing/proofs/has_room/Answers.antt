-- `showing::has_room` meets its contract: a longer output than any text, or one that is measured.
use Prim.Native.Nat.{ℕ}
use mathlib.Core.Path.{sym, ap}
use native.Mathlib.Omega.{arith}
use lib.Dec.{leb}
use lib.ListN.{length}
use borrow.Author.Tests.{le-leb}
use Rattle.showing.specs.Calls.{shown_text}
use Rattle.showing.proofs.Lengths.{text-most}
use Rattle.showing.proofs.has_room.Goals as goal

pub returns-then-room-ge133184 : goal.returns-then-room-ge133184
returns-then-room-ge133184 c =
    sym (le-leb (length (shown_text c.args.file.now)) c.args.room (omega (arith, text-most c.args.file.now c.requires)))

pub returns : goal.returns
returns c = ap (λ (n : ℕ). leb n c.args.room) c.text_length.ensures
