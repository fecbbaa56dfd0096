-- `listing::points_of` meets its contract. The loop's invariant: the points so far and those that are left make the whole list.
use Prim.Native.Nat.{ℕ, suc, ◌+◌, ◌-◌, ◌/◌, ◌%◌, ◌≤◌, ◌<◌}
use mathlib.Core.Path.{◌≡◌, refl, sym, ap, ap₂, ◌∙◌}
use mathlib.Core.List.{List, ◌++◌, append-nil, append_assoc}
use native.Mathlib.Numerals.{add-one, lt-add-one}
use native.Mathlib.Omega.{arith}
use lib.ListN.{length, take, drop, set, replicate, length-set, length-take, take-append-drop}
use lib.Seq.{take-suc-set, drop-set-lt, drop-drop}
use Rattle.enumerating.specs.Numbers.{list_of}
use Rattle.listing.specs.Calls.{in_array}
use Rattle.enumerating.proofs.Walks.{point-left, none_left, end-left}
use Rattle.listing.proofs.points_of.Goals as goal
use Rattle.listing.proofs.points_of.Goals.{then-bits-eq1, else-bits-eq1}
use Rattle.listing.proofs.points_of.Invariants.{Collected}

fewer-zeros : (l : List ℕ) (i m : ℕ) → drop i l ≡ replicate (suc m) 0 → drop (i + 1) l ≡ replicate m 0
fewer-zeros l i m e = sym (drop-drop 1 i l) ∙ ap (drop 1) e

module _ {n m : ℕ} {points : List ℕ} {count to rest : ℕ} (few : n ≤ 16) (r : Collected n m points count to rest) where
  positive : 0 < to
  positive = omega (arith, r.edge)

  collected-point : to < n → rest % 2 ≡ 1 → Collected n m (set points count to) (count + 1) (to + 1) (rest / 2)
  collected-point h e =
      let within : count < length points = omega (arith, r.edge, r.long) in
      let one_less : 16 - count ≡ suc (16 - (count + 1)) = omega (arith, r.edge) in
      record {
        edge = omega (arith, r.edge);
        long = length-set points count to ∙ r.long;
        beyond =
            drop-set-lt (count + 1) points count to (lt-add-one count) ∙
            fewer-zeros points count (16 - (count + 1)) (r.beyond ∙ ap (λ k. replicate k 0) one_less);
        so_far =
            r.so_far ∙ ap (λ (l : List ℕ). take count points ++ l) (point-left n to rest positive h e) ∙
            rw (add-one count, take-suc-set points count to within, append_assoc);
      }

  collected-none : to < n → (rest % 2 ≡ 1 → ⊥) → Collected n m points count (to + 1) (rest / 2)
  collected-none h e =
      record {
        edge = omega (arith, r.edge);
        long = r.long;
        beyond = r.beyond;
        so_far = r.so_far ∙ ap (λ (l : List ℕ). take count points ++ l) (none_left n to rest positive h e);
      }

  collected-all : n ≡ to → (count ≡ length (list_of n m)) × (points ≡ in_array (list_of n m))
  collected-all e =
      let is : list_of n m ≡ take count points =
      r.so_far ∙ ap (λ (l : List ℕ). take count points ++ l) (end-left n to rest positive e) ∙ append-nil _ in
      let many : count ≡ length (list_of n m) = omega (arith, ap length is, length-take count points, r.long, r.edge) in
      (many, sym (take-append-drop count points) ∙ ap₂ ◌++◌ (sym is) (r.beyond ∙ ap (λ (k : ℕ). replicate (16 - k) 0) many))

pub loop-to-init : goal.loop-to-init
loop-to-init c = record { edge = omega arith; long = refl; beyond = refl; so_far = refl }

pub loop-to-preserved : goal.loop-to-preserved
loop-to-preserved c =
    let few = c.requires.1 in
    let inv = c.loop-to.invariant in
    elim c.if-bits-eq1.branch [
      | then-bits-eq1 w ↦ rw (w.points-is, w.count-is) (collected-point few inv (omega arith) w.if-bits-eq1.true)
      | else-bits-eq1 w ↦ rw (w.points-is, w.count-is) (collected-none few inv (omega arith) w.if-bits-eq1.false)
    ]

pub returns : goal.returns
returns c = collected-all c.requires.1 c.loop-to.invariant (omega arith)
