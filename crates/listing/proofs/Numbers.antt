-- Numbers and well-formed lists determine each other. The points that the bits of a number say have
-- that number again. For a well-formed list a number is found bit by bit, from the last point to
-- the first. Assumes nothing.
use Prim.Native.Nat.{ℕ, zero, suc, ◌+◌, ◌-◌, ◌*◌, ◌/◌, ◌%◌, ◌^◌, ◌<◌}
use mathlib.Core.Path.{◌≡◌, refl, sym, ap, ap₂, ◌∙◌}
use mathlib.Core.Bool.{Bool, true, false, cond, and-eq-true_iff}
use mathlib.Core.Logic.{by_cases}
use mathlib.Core.List.{List, [], ◌∷◌}
use native.Mathlib.Nat.{mul-zero, mul-one, one-mul, mul-add, mul_assoc, pow-suc}
use native.Mathlib.Omega.{arith}
use native.Mathlib.Decide.{ℕ_discrete}
use lib.Dec.{eqb, ltb}
use borrow.Author.Tests.{eqb-true, eqb-false, ltb-true, lt-ltb}
use Rattle.model.specs.Lists.{steps, every, right_point}
use Rattle.enumerating.specs.Numbers.{number_of, points_after}
use Rattle.enumerating.proofs.Numbers.{list_right}
use Rattle.listing.specs.Statements.{NumberOfList, ListOfNumber}

-- the number of the points that the k bits of a number below 2 ^ k say
points-number : (a k m : ℕ) → m < 2 ^ k → number_of (points_after a k m) ≡ 2 ^ a * m
unfolding points_after number_of
points-number a zero m h = let none : m ≡ 0 = omega arith in rw none (sym (mul-zero (2 ^ a)))
points-number a (suc k) m h =
    go (eqb (m % 2) 1) refl
    (points-number (suc a) k (m / 2) (omega (arith, pow-suc 2 k)) ∙ ap (λ (x : ℕ). x * (m / 2)) (pow-suc 2 a) ∙ mul_assoc (2 ^ a) 2 (m / 2))
  where
    go : (x : Bool) → eqb (m % 2) 1 ≡ x → number_of (points_after (suc a) k (m / 2)) ≡ 2 ^ a * (2 * (m / 2))
        → number_of (cond x (suc a ∷ points_after (suc a) k (m / 2)) (points_after (suc a) k (m / 2))) ≡ 2 ^ a * m
    go true e later =
        let back : suc a - 1 ≡ a = omega arith in
        let odd : 1 + 2 * (m / 2) ≡ m = omega (arith, eqb-true (m % 2) 1 e) in
        ap₂ (λ (x y : ℕ). 2 ^ x + y) back later ∙ ap (λ (x : ℕ). x + 2 ^ a * (2 * (m / 2))) (sym (mul-one (2 ^ a))) ∙
        sym (mul-add (2 ^ a) 1 (2 * (m / 2))) ∙ ap (λ (x : ℕ). 2 ^ a * x) odd
    go false e later =
        let even : 2 * (m / 2) ≡ m = omega (arith, eqb-false (m % 2) 1 e) in
        later ∙ ap (λ (x : ℕ). 2 ^ a * x) even

-- a number of k bits that says these points
record Says (a k : ℕ) (ps : List ℕ) : Type 0 where
  number : ℕ
  below : number < 2 ^ k
  says : points_after a k number ≡ ps

-- a bit more at its low end, unset or set
unset : (a k : ℕ) (ps : List ℕ) → Says (suc a) k ps → Says a (suc k) ps
unfolding points_after
unset a k ps s =
    let m = s.number in
    let bit : 2 * m % 2 ≡ 0 = omega arith in
    let rest : 2 * m / 2 ≡ m = omega arith in
    record { number = 2 * m; below = omega (arith, pow-suc 2 k, s.below); says = rw (bit, rest) s.says }

set-bit : (a k : ℕ) (ps : List ℕ) → Says (suc a) k ps → Says a (suc k) (suc a ∷ ps)
unfolding points_after
set-bit a k ps s =
    let m = s.number in
    let bit : (1 + 2 * m) % 2 ≡ 1 = omega arith in
    let rest : (1 + 2 * m) / 2 ≡ m = omega arith in
    record { number = 1 + 2 * m; below = omega (arith, pow-suc 2 k, s.below); says = rw (bit, rest) (ap (λ (l : List ℕ). suc a ∷ l) s.says) }

number-for : (n a k : ℕ) (ps : List ℕ) → n ≡ suc (a + k) → every (right_point n) (steps a ps) ≡ true → Says a k ps
unfolding every steps points_after
number-for n a zero [] e w = record { number = 0; below = omega arith; says = refl }
number-for n a zero (p ∷ ps) e w =
    let right = (and-eq-true_iff (ltb a p) (ltb p n)).0 ((and-eq-true_iff (right_point n a p) _).0 w).0 in
    absurd (omega (arith, ltb-true a p right.0, ltb-true p n right.1))
number-for n a (suc k) [] e w = unset a k [] (number-for n (suc a) k [] (omega arith) refl)
number-for n a (suc k) (p ∷ ps) e w =
    let both = (and-eq-true_iff (right_point n a p) (every (right_point n) (steps p ps))).0 w in
    let right = (and-eq-true_iff (ltb a p) (ltb p n)).0 both.0 in
    by_cases (ℕ_discrete (suc a) p)
    (λ q. rw (← q) (set-bit a k ps (number-for n (suc a) k ps (omega arith) (rw q both.1))))
    (λ q. unset a k (p ∷ ps)
    (number-for n (suc a) k (p ∷ ps) (omega arith) (rw (lt-ltb (suc a) p (omega (arith, ltb-true a p right.0)), right.1) both.1)))

pub list-of-number : ListOfNumber
list-of-number n h m l = (list_right n m h, points-number 0 (n - 1) m l ∙ one-mul m)

pub number-of-list : NumberOfList
number-of-list n h ps w =
    let s = number-for n 0 (n - 1) ps (omega arith) w in
    let is : number_of ps ≡ s.number = ap number_of (sym s.says) ∙ points-number 0 (n - 1) s.number s.below ∙ one-mul s.number in
    (rw is s.below, rw is s.says)
