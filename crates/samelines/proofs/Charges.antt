-- The charges of both files are equal: a line's first preempter is found from the lines that each touches and from M, and whether a line is of H
-- from its first preempter. Assumes nothing.
use Rattle.std.specs.Prelude.{None, Ok, Option, Some}
use Prim.Native.Nat.{ℕ}
use mathlib.Core.Path.{◌≡◌, refl, sym, ap, ◌∙◌, fun_ext}
use mathlib.Core.Bool.{Bool, true, false, not}
use mathlib.Core.Logic.{inl, inr}
use native.Mathlib.Omega.{arith}
use mathlib.Core.List.{List}
use Rattle.model.specs.Task.{Task, preempter_count}
use Rattle.model.specs.Lines.{evicted}
use Rattle.model.specs.Charges.{touches, first_touching, charged_to, region_charge, charge, charges}
use Rattle.model.proofs.Charges.{FirstOf, first_of}
use Rattle.model.proofs.Seen.{SeenAlike}
use Rattle.model.proofs.Verdicts.{ok-same}
use Rattle.taskfile.specs.File.{Counts, task_of}
use Rattle.taskfile.proofs.Accepted.{preempter-count}
use Rattle.planner.specs.Calls.{price_charges, plan_charges}
use Rattle.samelines.specs.Files.{SameEach}
use Rattle.samelines.specs.Statements.{EachTogether, PriceChargesAlike, PlanChargesAlike}
use Rattle.samelines.proofs.Tasks.{counts-agree, tasks-alike}
use Rattle.samelines.proofs.Calls.{price-alike, plans-equal}

somewhere : Option ℕ → Bool
somewhere None = false
somewhere (Some i) = true

-- a line is of H where it has a first preempter
evicted-is : (t : Task) (c : ℕ) → evicted t c ≡ somewhere (first_touching t c)
unfolding somewhere
evicted-is t c = go (first_of t c)
  where
    go : FirstOf (preempter_count t) (evicted t c) (first_touching t c) → evicted t c ≡ somewhere (first_touching t c)
    go (inl none) = none.0 ∙ rw none.1 refl
    go (inr some) = some.0 ∙ rw some.1.is-at refl

first-same : (t u : Task) → preempter_count t ≡ preempter_count u → ((i c : ℕ) → touches t i c ≡ touches u i c) → first_touching t ≡ first_touching u
unfolding first_touching
first-same t u count same =
    fun_ext (λ c. let f : ◌≡◌ {A = ℕ → Bool} (λ i. not (touches t i c)) (λ i. not (touches u i c)) = fun_ext (λ i. ap not (same i c)) in rw (f, count))

module _ (t u : Task) (a : SeenAlike t u) (first : first_touching t ≡ first_touching u) where
  region-same : region_charge t ≡ region_charge u
  unfolding region_charge charged_to
  region-same = fun_ext (λ i. fun_ext (λ b. fun_ext (λ e. rw (a.loaded_lines, first))))

  charge-same : charge t ≡ charge u
  unfolding charge
  charge-same = fun_ext (λ ps. fun_ext (λ i. rw (region-same, a.count)))

  charges-same : charges t ≡ charges u
  unfolding charges
  charges-same = fun_ext (λ ps. rw charge-same)

first_alike : (file other : List ℕ) → SameEach file other → first_touching (task_of file) ≡ first_touching (task_of other)
first_alike file other s =
    first-same (task_of file) (task_of other)
    (preempter-count file ∙ ap (λ (n : Counts). n.preempters) (counts-agree file other (s.blocks 0 (omega arith))) ∙ sym (preempter-count other)) s.touched

pub each-together : EachTogether
each-together file other s =
    record {
      accepted = s.accepted;
      other-accepted = s.other-accepted;
      blocks = s.blocks;
      touched = λ c. evicted-is (task_of file) c ∙ rw (first_alike file other s) (sym (evicted-is (task_of other) c));
    }

charges-alike : (file other : List ℕ) → SameEach file other → charges (task_of file) ≡ charges (task_of other)
charges-alike file other s = charges-same (task_of file) (task_of other) (tasks-alike file other (each-together file other s)) (first_alike file other s)

pub price-charges-alike : PriceChargesAlike
unfolding price_charges
price-charges-alike file other s = fun_ext (λ ps. rw (price-alike.0 file other (each-together file other s), charges-alike file other s))

pub plan-charges-alike : PlanChargesAlike
unfolding plan_charges
plan-charges-alike file other s p q a b =
    let same = ok-same (plans-equal file other (each-together file other s) (Ok p) (Ok q) a b) in
    rw (same, charges-alike file other s)
