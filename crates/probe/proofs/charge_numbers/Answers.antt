-- `probe::charge_numbers` meets its contract. The loop's invariant: lines and cost are in place, and the charges passed.
use Prim.Native.Nat.{ℕ, zero, suc, ◌+◌, ◌≤◌, ◌<◌}
use mathlib.Core.Path.{◌≡◌, refl, sym, ap, ◌∙◌}
use mathlib.Core.List.{List, ◌∷◌}
use native.Mathlib.Omega.{arith}
use lib.ListN.{length, get_or, set, length-set}
use lib.Seq.{get_or-set_same, get_or-set_other, ext_get_or}
use borrow.Author.Count.{below_more}
use borrow.Author.Rules.{rules}
use Rattle.probe.proofs.charge_numbers.Goals as goal
use Rattle.probe.proofs.charge_numbers.Invariants.{Placed}

module _ {lines cost : ℕ} {charges numbers : List ℕ} {i : ℕ} (w : Placed lines cost charges numbers i) where
  placed-more : i < 32 → Placed lines cost charges (set numbers (i + 2) (get_or charges i 0)) (i + 1)
  placed-more h =
      record {
        long = length-set numbers (i + 2) _ ∙ w.long;
        few = omega arith;
        lines_are = get_or-set_other numbers (i + 2) 0 _ 0 (λ e. omega arith) ∙ w.lines_are;
        cost-is = get_or-set_other numbers (i + 2) 1 _ 0 (λ e. omega arith) ∙ w.cost-is;
        charges-are =
            below_more _ i (λ k l. get_or-set_other numbers (i + 2) (k + 2) _ 0 (λ e. omega arith) ∙ w.charges-are k l)
            (get_or-set_same numbers (i + 2) _ 0 (omega (arith, w.long)));
      }

  placed-all : length charges ≡ 32 → 32 ≤ i → numbers ≡ lines ∷ cost ∷ charges
  placed-all long h = ext_get_or 0 numbers (lines ∷ cost ∷ charges) (w.long ∙ sym (ap (λ (n : ℕ). suc (suc n)) long)) go
    where
      go : (k : ℕ) → k < length numbers → get_or numbers k 0 ≡ get_or (lines ∷ cost ∷ charges) k 0
      go zero l = w.lines_are
      go (suc zero) l = w.cost-is
      go (suc (suc k)) l = let there : suc (suc k) ≡ k + 2 = omega arith in ap (λ (n : ℕ). get_or numbers n 0) there ∙ w.charges-are k (omega (arith, w.long))

pub loop-k-init : goal.loop-k-init
loop-k-init c = record { long = refl; few = omega arith; lines_are = refl; cost-is = refl; charges-are = λ k l. absurd (omega arith) }

pub loop-k-preserved : goal.loop-k-preserved
loop-k-preserved c = placed-more c.loop-k.invariant (omega arith)

pub returns : goal.returns
returns c = placed-all c.loop-k.invariant (search rules) (omega arith)
