-- `assembling::room_for` meets its contract, by the kinds.
use Rattle.std.proofs.Common.{inl, inr}
use native.Mathlib.Omega.{arith}
use Rattle.std.proofs.lemmas.Bool.Decides.{nat_tests}
use Rattle.assembling.specs.Drafts.{room_for}
use Rattle.assembling.proofs.room_for.Goals as goal

pub returns-then-preempters-eq0 : goal.returns-then-preempters-eq0
unfolding room_for
returns-then-preempters-eq0 c =
    elim c.in-Basic.is [ inl kind ↦ rw kind (grind (arith, nat_tests)) | inr kind ↦ rw kind (grind (arith, nat_tests)) ]

pub returns-else-preempters-eq0 : goal.returns-else-preempters-eq0
unfolding room_for
returns-else-preempters-eq0 c =
    elim c.in-Basic.is [ inl kind ↦ rw kind (grind (arith, nat_tests)) | inr kind ↦ rw kind (grind (arith, nat_tests)) ]

pub returns-then-blocks-gt0 : goal.returns-then-blocks-gt0
unfolding room_for
returns-then-blocks-gt0 c = rw c.in-Preempting.is (grind (arith, nat_tests))

pub returns-else-blocks-gt0 : goal.returns-else-blocks-gt0
unfolding room_for
returns-else-blocks-gt0 c = rw c.in-Preempting.is (grind (arith, nat_tests))
