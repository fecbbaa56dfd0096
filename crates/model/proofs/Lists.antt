-- Laws of lists of points: the test that two are the same, and the enumeration, which has every well-formed list and no other.
-- Assumes nothing.
use Rattle.std.specs.Prelude.{None, Some}
use Prim.Native.Nat.{ℕ, zero, suc, ◌+◌, ◌-◌, ◌<◌}
use mathlib.Core.Path.{◌≡◌, refl, sym, ap, ap₂, ◌∙◌}
use mathlib.Core.Bool.{Bool, true, false, cond, ◌&&◌, ◌||◌, and_assoc, or_assoc, or-false, and-false, false≢true, and-eq-true_iff}
use mathlib.Core.Logic.{◌↔◌}
use mathlib.Core.List.{List, [], ◌∷◌, ◌++◌, map}
use native.Mathlib.Omega.{arith}
use native.Mathlib.Decide.{ℕ_discrete}
use lib.Dec.{eqb, ltb}
use lib.ListN.{length, get_or}
use borrow.Author.Tests.{eqb-true, eqb-false, eq-eqb, ne_eqb, ltb-true, ltb-false, lt-ltb, le-ltb}
use Rattle.model.specs.Lists.{Region, steps, every, right_point, same_list, among, rising_lists, lowest}
use Rattle.model.specs.Laws.{Enumerated}

and-or : (a b c : Bool) → (a && b || a && c) ≡ (a && (b || c))
and-or true b c = refl
and-or false b c = refl

pub same-list : (ps qs : List ℕ) → same_list ps qs ≡ true → ps ≡ qs
unfolding same_list
same-list [] [] h = refl
same-list [] (q ∷ qs) h = absurd (false≢true h)
same-list (p ∷ ps) [] h = absurd (false≢true h)
same-list (p ∷ ps) (q ∷ qs) h =
    let both = (and-eq-true_iff (eqb p q) (same_list ps qs)).0 h in
    ap₂ ◌∷◌ (eqb-true p q both.0) (same-list ps qs both.1)

pub list_same : (ps : List ℕ) → same_list ps ps ≡ true
unfolding same_list
list_same [] = refl
list_same (p ∷ ps) = simp (eq-eqb p p refl, list_same ps)

pub same-iff : (ps qs : List ℕ) → (same_list ps qs ≡ true) ↔ (ps ≡ qs)
same-iff ps qs = (same-list ps qs, λ e. rw (← e) (list_same ps))

-- two lists that are the same exactly where two numbers are
pub same-eqb : (ps qs : List ℕ) (m n : ℕ) → (m ≡ n) ↔ (ps ≡ qs) → same_list ps qs ≡ eqb m n
same-eqb ps qs m n e = go (eqb m n) refl (same_list ps qs) refl
  where
    go : (a : Bool) → eqb m n ≡ a → (b : Bool) → same_list ps qs ≡ b → b ≡ a
    go true p b q = sym q ∙ (same-iff ps qs).1 (e.0 (eqb-true m n p))
    go false p true q = absurd (eqb-false m n p (e.1 (same-list ps qs q)))
    go false p false q = refl

pub same-append : (ps qs ps' qs' : List ℕ) → length ps ≡ length qs → same_list (ps ++ ps') (qs ++ qs') ≡ (same_list ps qs && same_list ps' qs')
unfolding same_list
same-append [] [] ps' qs' h = refl
same-append [] (q ∷ qs) ps' qs' h = absurd (omega arith)
same-append (p ∷ ps) [] ps' qs' h = absurd (omega arith)
same-append (p ∷ ps) (q ∷ qs) ps' qs' h =
    ap (λ (b : Bool). eqb p q && b) (same-append ps qs ps' qs' (omega arith)) ∙ sym (and_assoc (eqb p q) (same_list ps qs) (same_list ps' qs'))

among-append : (ps : List ℕ) (xs ys : List (List ℕ)) → among ps (xs ++ ys) ≡ (among ps xs || among ps ys)
unfolding among
among-append ps [] ys = refl
among-append ps (x ∷ xs) ys = ap (λ (b : Bool). same_list ps x || b) (among-append ps xs ys) ∙ sym (or_assoc (same_list ps x) (among ps xs) (among ps ys))

among-map : (p q : ℕ) (ps : List ℕ) (xs : List (List ℕ)) → among (p ∷ ps) (map (λ ps. q ∷ ps) xs) ≡ (eqb p q && among ps xs)
unfolding among same_list
among-map p q ps [] = sym (and-false (eqb p q))
among-map p q ps (x ∷ xs) = ap (λ (b : Bool). eqb p q && same_list ps x || b) (among-map p q ps xs) ∙ and-or (eqb p q) (same_list ps x) (among ps xs)

-- a point after a is the next number, or a point after that
from_next : (n a p : ℕ) → suc a < n → (e f : Bool) → (p ≡ suc a → e ≡ f)
    → (right_point n (suc a) p && e || eqb p (suc a) && f) ≡ (right_point n a p && e)
from_next n a p h e f same = go (ℕ_discrete p (suc a))
  where
    above : (p ≡ suc a → ⊥) → (b : Bool) → ltb a p ≡ b → ltb (suc a) p ≡ b
    above q true l = lt-ltb (suc a) p (omega (arith, ltb-true a p l))
    above q false l = le-ltb (suc a) p (omega (arith, ltb-false a p l))

    go : Dec (p ≡ suc a) → (right_point n (suc a) p && e || eqb p (suc a) && f) ≡ (right_point n a p && e)
    go (yes q) = simp (le-ltb (suc a) p (omega arith), eq-eqb p (suc a) q, lt-ltb a p (omega arith), lt-ltb p n (omega arith)) (sym (same q))
    go (no q) = simp (ne_eqb p (suc a) q, above q (ltb a p) refl) (or-false (ltb a p && ltb p n && e))

rising : (n k a : ℕ) → n ≡ suc (a + k) → (ps : List ℕ) → among ps (rising_lists a k) ≡ every (right_point n) (steps a ps)
unfolding rising_lists among same_list every steps
rising n zero a e [] = refl
rising n zero a e (p ∷ ps) = sym (none (ltb a p) refl)
  where
    none : (b : Bool) → ltb a p ≡ b → (ltb a p && ltb p n && every (right_point n) (steps p ps)) ≡ false
    none true l = simp (l, le-ltb p n (omega (arith, ltb-true a p l)))
    none false l = simp l
rising n (suc k) a e [] = among-append [] (rising_lists (suc a) k) _ ∙ simp (rising n k (suc a) (omega arith) [])
rising n (suc k) a e (p ∷ ps) =
    among-append (p ∷ ps) (rising_lists (suc a) k) _ ∙
    ap₂ ◌||◌ (rising n k (suc a) (omega arith) (p ∷ ps))
    (among-map p (suc a) ps (rising_lists (suc a) k) ∙ ap (λ (b : Bool). eqb p (suc a) && b) (rising n k (suc a) (omega arith) ps)) ∙
    from_next n a p (omega arith) (every (right_point n) (steps p ps)) (every (right_point n) (steps (suc a) ps))
    (λ q. ap (λ (b : ℕ). every (right_point n) (steps b ps)) q)

pub enumerated : Enumerated
enumerated n h ps = rising n (n - 1) 0 (omega arith) ps

-- where a test holds of each, none is the lowest at which it does not
pub lowest-none : (f : ℕ → ℕ → Bool) (i : ℕ) (rs : List Region) → every f rs ≡ true → lowest f i rs ≡ None
unfolding every lowest
lowest-none f i [] h = refl
lowest-none f i (r ∷ rs) h =
    let both = (and-eq-true_iff (f r.from r.to) (every f rs)).0 h in
    rw both.0 (lowest-none f (suc i) rs both.1)

pub none-lowest : (f : ℕ → ℕ → Bool) (i : ℕ) (rs : List Region) → lowest f i rs ≡ None → every f rs ≡ true
unfolding every lowest
none-lowest f i [] e = refl
none-lowest f i (r ∷ rs) e = go (f r.from r.to) e (none-lowest f (suc i) rs)
  where
    go : (b : Bool) → cond b (lowest f (suc i) rs) (Some i) ≡ None → (lowest f (suc i) rs ≡ None → every f rs ≡ true)
        → (b && every f rs) ≡ true
    go true q ih = ih q
    go false q ih = let z : ◌≡◌ {A = ℕ} 0 1 = cc in absurd (omega arith)

-- a well-formed list has fewer points than the task has blocks, and each is right after the one before it

pub rising-short : (n a : ℕ) (ps : List ℕ) → a < n → every (right_point n) (steps a ps) ≡ true → a + length ps < n
unfolding every steps
rising-short n a [] h e = omega arith
rising-short n a (p ∷ ps) h e =
    let both = (and-eq-true_iff (right_point n a p) (every (right_point n) (steps p ps))).0 e in
    let right = (and-eq-true_iff (ltb a p) (ltb p n)).0 both.0 in
    omega (arith, ltb-true a p right.0, rising-short n p ps (ltb-true p n right.1) both.1)

pub point-right : (n a : ℕ) (ps : List ℕ) (i : ℕ) → every (right_point n) (steps a ps) ≡ true → i < length ps
    → right_point n (get_or (a ∷ ps) i 0) (get_or ps i 0) ≡ true
unfolding every steps
point-right n a [] i e h = absurd (omega arith)
point-right n a (p ∷ ps) zero e h = ((and-eq-true_iff (right_point n a p) (every (right_point n) (steps p ps))).0 e).0
point-right n a (p ∷ ps) (suc i) e h =
    point-right n p ps i ((and-eq-true_iff (right_point n a p) (every (right_point n) (steps p ps))).0 e).1 (omega arith)
