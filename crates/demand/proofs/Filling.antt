-- Arrays that are filled place after place.
use Prim.Native.Nat.{ℕ, ◌+◌, ◌≤◌, ◌<◌}
use mathlib.Core.Path.{◌≡◌, ◌∙◌}
use mathlib.Core.Logic.{by_cases}
use mathlib.Core.List.{List}
use native.Mathlib.Decide.{ℕ_discrete}
use native.Mathlib.Omega.{arith}
use lib.ListN.{length, get_or, set, length-set}
use lib.Seq.{get_or-set_same, get_or-set_other}
use Rattle.demand.specs.Calls.{most_tasks}
use Rattle.demand.specs.Lanes.{Holds}

pub filled_none : (f : ℕ → ℕ) (xs : List ℕ) → length xs ≡ most_tasks → Holds f 0 xs
filled_none f xs l = record { long = l; holds = λ k h. absurd (omega arith) }

pub filled_more : (f : ℕ → ℕ) (i : ℕ) (xs : List ℕ) (x : ℕ) → i < most_tasks → x ≡ f i → Holds f i xs → Holds f (i + 1) (set xs i x)
filled_more f i xs x l e filled =
    record {
      long = length-set xs i x ∙ filled.long;
      holds = λ k h.
          by_cases (ℕ_discrete k i) (λ s. rw (s, get_or-set_same xs i x 0 (omega (arith, filled.long))) e)
          (λ s. get_or-set_other xs i k x 0 s ∙ filled.holds k (omega arith));
    }

-- a place that holds it already
pub filled-still : (f : ℕ → ℕ) (i : ℕ) (xs : List ℕ) → get_or xs i 0 ≡ f i → Holds f i xs → Holds f (i + 1) xs
filled-still f i xs e filled =
    record { long = filled.long; holds = λ k h. by_cases (ℕ_discrete k i) (λ s. rw s e) (λ s. filled.holds k (omega arith)) }

pub filled-all : (f : ℕ → ℕ) (n i : ℕ) (xs : List ℕ) → n ≤ i → Holds f i xs → Holds f n xs
filled-all f n i xs l filled = record { long = filled.long; holds = λ k h. filled.holds k (omega arith) }
