-- `assembling::counted` meets its contract, by the kinds.
use Rattle.std.proofs.Common.{inl, inr}
use Rattle.assembling.proofs.Drafting.{counts-basic, counts-armed, counts-preempter}
use Rattle.assembling.proofs.counted.Goals as goal

pub returns-in-Basic : goal.returns-in-Basic
returns-in-Basic c =
    elim c.in-Basic.is [
      | inl kind ↦ rw kind (counts-basic _ (rw kind at c.requires.0) c.requires.2)
      | inr kind ↦ rw kind (counts-armed _ (rw kind at c.requires.0) c.requires.2)
    ]

pub returns-in-Preempting : goal.returns-in-Preempting
returns-in-Preempting c =
    let kind = c.in-Preempting.is in
    rw kind (counts-preempter _ (rw kind at c.requires.0) c.requires.1)
