-- `joining::joined_header` meets its contract: only the two limits are not the first's.
use Rattle.std.proofs.Common.{ℕ, ◌≡◌, min, ap₂, rules}
use Rattle.joining.specs.Joining.{joined_header, joined}
use Rattle.joining.proofs.joined_header.Goals as goal

pub returns : goal.returns
unfolding joined joined_header
returns c =
    let header = c.header-header.result in
    let other = c.header-other.result in
    let limit : c.min.result ≡ min header.limit other.limit = search rules in
    let second : c.min-2.result ≡ min header.second_limit other.second_limit = search rules in
    rw (← c.header-header.ensures.0, ← c.header-other.ensures.0)
    (ap₂ (λ (q q2 : ℕ). record header { limit = q; second_limit = q2 }) limit second)
