-- The demands, the blocking and the smallest deadline of a set, over its places. Assumes nothing.
use Prim.Native.Nat.{ℕ, ◌+◌, min, max}
use mathlib.Core.Path.{◌≡◌, refl, sym, ◌∙◌}
use mathlib.Core.List.{List}
use native.Mathlib.Omega.{arith}
use lib.ListN.{length, get_or}
use Rattle.demand.specs.Demand.{most_ticks, demand, demands, blocks, blocking, least_deadline}
use Rattle.demand.specs.Lanes.{lane, Column, below, blocked_by}
use Rattle.demand.specs.declared.TaskRecord.{TaskRecord}
use Rattle.demand.proofs.Joined.{below-same, over-places}

module _ (τs : List TaskRecord) where
  pub demands-placed : (t : ℕ) → demands τs t ≡ below ◌+◌ 0 (length τs) (λ k. demand (lane τs k) t)
  unfolding demands
  demands-placed t = over-places ◌+◌ 0 (λ a b. omega arith) (λ a b c. omega arith) (λ σs. demands σs t) (λ τ. demand τ t) refl (λ τ σs. refl) τs

  blocking-placed : (t : ℕ) → blocking τs t ≡ below max 0 (length τs) (λ k. blocks (lane τs k) t)
  unfolding blocking
  blocking-placed t = over-places max 0 (λ a b. omega arith) (λ a b c. omega arith) (λ σs. blocking σs t) (λ τ. blocks τ t) refl (λ τ σs. refl) τs

  pub least-placed : least_deadline τs ≡ below min (most_ticks + 1) (length τs) (λ k. (lane τs k).deadline)
  unfolding least_deadline
  least-placed = over-places min (most_ticks + 1) (λ a b. omega arith) (λ a b c. omega arith) least_deadline (λ τ. τ.deadline) refl (λ τ σs. refl) τs

  -- what the arrays give
  pub least-read : (ds : List ℕ) → Column (λ τ. τ.deadline) τs ds → below min (most_ticks + 1) (length τs) (λ k. get_or ds k 0) ≡ least_deadline τs
  least-read ds c = below-same min (most_ticks + 1) (length τs) _ _ c.holds ∙ sym least-placed

  pub blocking-read : (ds qs : List ℕ) (t : ℕ) → Column (λ τ. τ.deadline) τs ds → Column (λ τ. τ.region) τs qs
      → below max 0 (length τs) (blocked_by ds qs t) ≡ blocking τs t
  unfolding blocks
  blocking-read ds qs t c d = below-same max 0 (length τs) _ _ (λ k l. rw (c.holds k l, d.holds k l)) ∙ sym (blocking-placed t)
