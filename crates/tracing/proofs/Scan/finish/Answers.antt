-- `tracing::Scan::finish` meets its contract: a room that is too small is refused, and of any other
-- the kept addresses are handed on.
use borrow.Author.Tests.{lt-leb}
use Prim.Native.Nat.{ℕ}
use native.Mathlib.Omega.{arith}
use lib.ListN.{length, take, length-take}
use mathlib.Core.Path.{refl, sym, ap, ◌∙◌}
use mathlib.Core.List.{List}
use Rattle.tracing.specs.Scans.{scan_place}
use Rattle.tracing.specs.Calls.{made_answer, made_output, least_room, room_row, room_answer, room_output}
use Rattle.tracing.proofs.Numbers.{smaller, take-least}
use Rattle.tracing.proofs.Whole.{room-enough}
use Rattle.tracing.proofs.Scan.finish.Goals as goal

pub returns-then-addresses-lt-ROOM : goal.returns-then-addresses-lt-ROOM
unfolding room_row room_answer room_output
returns-then-addresses-lt-ROOM c = rw (lt-leb least_room _ c.if-addresses-lt-ROOM.true) record { value = refl; out_after = refl }

pub slice_bounds-write-end : goal.slice_bounds-write-end
slice_bounds-write-end c = let least = c.min-count.ensures ∙ smaller c.args.self.records (length c.args.addresses.now) in simp length-take (omega arith)

pub returns : goal.returns
returns c =
    let args = c.args in
    let s = args.settings in
    let place = scan_place args.self in
    let room = args.addresses.now in
    let out = args.out.now in
    let found = ap (λ (n : ℕ). take n room) (c.min-count.ensures ∙ smaller c.args.self.records (length c.args.addresses.now)) ∙ take-least args.self.records room in
    let enough = room-enough room out _ _ (omega arith) in
    record {
      value = c.write.ensures.value ∙ ap (λ (xs : List ℕ). made_answer s place xs out) found ∙ sym enough.0;
      out_after = c.write.ensures.out_after ∙ ap (λ (xs : List ℕ). made_output s place xs out) found ∙ sym enough.1;
    }
