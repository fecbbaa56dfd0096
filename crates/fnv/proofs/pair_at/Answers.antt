-- `fnv::pair_at` meets its contract: an or is 0 only if both are.
use Rattle.fnv.proofs.Zeros.{twice-zero, or-zero}
use Rattle.fnv.proofs.pair_at.Goals as goal

pub returns : goal.returns
returns c =
    let args = c.args in
    let low = c.eight_at.result in
    let high = c.eight_at-2.result in
    twice-zero 8 args.bytes.now args.at low high _ c.eight_at.ensures c.eight_at-2.ensures (λ none. (or-zero low high none).0) (λ none. (or-zero low high none).1)
