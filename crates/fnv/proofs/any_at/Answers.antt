-- `fnv::any_at` meets its contract: an or is 0 only if both are.
use Rattle.fnv.proofs.Zeros.{or-four-zero}
use Rattle.fnv.proofs.any_at.Goals as goal

pub returns : goal.returns
returns c =
    let zeros = or-four-zero c.eight_at.result c.eight_at-2.result c.eight_at-3.result c.eight_at-4.result in (
      λ none. c.eight_at.ensures (zeros none).0,
      λ none. c.eight_at-2.ensures (zeros none).1,
      λ none. c.eight_at-3.ensures (zeros none).2,
      λ none. c.eight_at-4.ensures (zeros none).3,
    )
