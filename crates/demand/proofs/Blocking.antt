-- Up to the least deadline above t the same tasks block as at t. Assumes nothing.
use Prim.Native.Nat.{ℕ, ◌≤◌, ◌<◌, min, max}
use mathlib.Core.Path.{◌≡◌, ◌∙◌}
use mathlib.Core.Logic.{by_cases}
use mathlib.Core.List.{List}
use native.Mathlib.Decide.{dec_lt}
use native.Mathlib.Omega.{arith}
use lib.ListN.{get_or}
use borrow.Author.Tests.{lt-ltb, le-ltb}
use Rattle.demand.specs.Demand.{most_ticks}
use Rattle.demand.specs.Lanes.{below, latest, blocked_by, ended_by, BlockedUntil}
use Rattle.demand.specs.declared.Blocked.{Blocked}
use Rattle.demand.proofs.Joined.{below-same, least-below, least_above}

module _ (n : ℕ) (ds qs : List ℕ) (t : ℕ) where
  -- a task that blocks at t does so up to the time that its deadline ends it
  same_blocks : (s k : ℕ) → t ≤ s → s < ended_by ds t k → blocked_by ds qs t k ≡ blocked_by ds qs s k
  same_blocks s k l u =
      by_cases (dec_lt t (get_or ds k 0))
      (λ above. let still : s < get_or ds k 0 = rw (lt-ltb _ _ above) at u in rw (lt-ltb _ _ above, lt-ltb _ _ still))
      (λ passed. rw (le-ltb t (get_or ds k 0) (omega arith), le-ltb s (get_or ds k 0) (omega arith)))

  ended-above : (k : ℕ) → t ≤ most_ticks → t < ended_by ds t k
  ended-above k l =
      by_cases (dec_lt t (get_or ds k 0)) (λ above. rw (lt-ltb _ _ above) above) (λ passed. rw (le-ltb t (get_or ds k 0) (omega arith)) (omega arith))

  pub blocks-until : (b : Blocked) → b.region ≡ below max 0 n (blocked_by ds qs t) → b.until ≡ below min latest n (ended_by ds t) → t ≤ most_ticks
      → BlockedUntil n ds qs t b × (t < b.until)
  blocks-until b region until l = (
    λ s f u. region ∙ below-same max 0 n _ _ (λ k h. same_blocks s k f (omega (arith, until, least-below latest n (ended_by ds t) k h))),
    rw until (least_above latest n t _ (omega arith) (λ k h. ended-above k l)),
  )
