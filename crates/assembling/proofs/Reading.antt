-- The numbers of a line's words: what a word says, and the words read so far.
-- Assumes nothing.
use Prim.Native.Nat.{ℕ, ◌+◌, ◌≤◌, ◌<◌}
use Rattle.std.proofs.Common.{Option, None, Some}
use mathlib.Core.Path.{◌≡◌, refl, sym, ap, ◌∙◌}
use mathlib.Core.Bool.{Bool, true, false, cond, ◌&&◌, and-eq-true_iff, and-false, and_assoc}
use mathlib.Core.Logic.{by_cases}
use mathlib.Core.List.{List, [], ◌∷◌, ◌++◌, map, append_assoc, append-nil}
use native.Mathlib.Decide.{dec_le}
use native.Mathlib.Numerals.{add-one}
use native.Mathlib.Omega.{arith}
use borrow.Author.Tests.{le-leb, lt-leb, lt-ltb, leb-true}
use lib.Dec.{leb, ltb}
use lib.ListN.{length, set, take, length-append, length-set}
use lib.Seq.{take-suc-set}
use Rattle.decimals.specs.Decimals.{all_digits, value, decimal_of}
use Rattle.assembling.specs.Drafts.{is_number, all_numbers}
use Rattle.assembling.specs.Steps.{number_in, NumbersRead}

-- a word that says a number of 64 bits says it here too if it is small enough

said : (w : List ℕ) (n : ℕ) → decimal_of w ≡ Some n → ((ltb 0 (length w) && all_digits w) ≡ true) × (value w ≡ n)
unfolding decimal_of
said w n e = go (ltb 0 (length w) && all_digits w) (ltb (value w) 18446744073709551616) e
  where
    go : (x y : Bool) → cond (x && y) (Some (value w)) None ≡ Some n → (x ≡ true) × (value w ≡ n)
    go true true e = (refl, cc)
    go true false e = let z : ◌≡◌ {A = ℕ} 0 1 = cc in absurd (omega arith)
    go false y e = let z : ◌≡◌ {A = ℕ} 0 1 = cc in absurd (omega arith)

pub number-right : (w : List ℕ) (n : ℕ) → Some n ≡ decimal_of w → n ≤ 4294967295 → Some n ≡ number_in w
unfolding number_in is_number
number-right w n e h =
    let s = said w n (sym e) in
    let both = (and-eq-true_iff (ltb 0 (length w)) (all_digits w)).0 s.0 in
    rw (both.0, both.1, s.1, le-leb n 4294967295 h) refl

pub number-large : (w : List ℕ) (n : ℕ) → Some n ≡ decimal_of w → 4294967295 < n → None ≡ number_in w
unfolding number_in is_number
number-large w n e h =
    let s = said w n (sym e) in
    let both = (and-eq-true_iff (ltb 0 (length w)) (all_digits w)).0 s.0 in
    rw (both.0, both.1, s.1, lt-leb n 4294967295 h) refl

pub number-none : (w : List ℕ) → decimal_of w ≡ None → number_in w ≡ None
unfolding decimal_of number_in is_number
number-none w e = by_cases (dec_le (value w) 4294967295) small (λ h. large (ltb 0 (length w)) (all_digits w) (lt-leb (value w) 4294967295 (omega arith)))
  where
    large : (a b : Bool) → leb (value w) 4294967295 ≡ false → cond (a && (b && leb (value w) 4294967295)) (Some (value w)) None ≡ None
    large a true h = rw (h, and-false)
    large a false h = rw and-false

    go : (a b : Bool) → cond ((a && b) && true) (Some (value w)) None ≡ None → cond (a && (b && true)) (Some (value w)) None ≡ None
    go true true e = let z : ◌≡◌ {A = ℕ} 0 1 = cc in absurd (omega arith)
    go true false e = refl
    go false b e = refl

    small : value w ≤ 4294967295 → cond (ltb 0 (length w) && (all_digits w && leb (value w) 4294967295)) (Some (value w)) None ≡ None
    small h = rw (le-leb (value w) 4294967295 h) (go (ltb 0 (length w)) (all_digits w) (rw (lt-ltb (value w) 18446744073709551616 (omega arith)) at e))

-- the number, if it is small enough
abbrev pub small_only : Option ℕ → Option ℕ
small_only (Some n) = cond (leb n 4294967295) (Some n) None
small_only None = None

pub number_is : (w : List ℕ) → number_in w ≡ small_only (decimal_of w)
number_is w = go (decimal_of w) refl
  where
    go : (d : Option ℕ) → d ≡ decimal_of w → number_in w ≡ small_only d
    go (Some n) e = by_cases (dec_le n 4294967295) (λ h. rw (le-leb n 4294967295 h) (sym (number-right w n e h))) (λ h. rw (lt-leb n 4294967295 (omega arith)) (sym (number-large w n e (omega arith))))
    go None e = number-none w (sym e)

-- the words read so far, all numbers, whose values stand in an array, and those that are left
pub record Seen (words left : List (List ℕ)) (numbers : List ℕ) (count : ℕ) : Type 0 where
  pub seen : List (List ℕ)
  pub all : words ≡ seen ++ left
  pub right : all_numbers seen ≡ true
  pub held : take count numbers ≡ map value seen
  pub long : length seen ≡ count
  pub few : count ≤ 125
  pub room : length numbers ≡ 125

pub seen_none : (words : List (List ℕ)) (numbers : List ℕ) → length numbers ≡ 125 → Seen words words numbers 0
unfolding all_numbers
seen_none words numbers e = record { seen = []; all = refl; right = refl; held = refl; long = refl; few = omega arith; room = e }

numbers-append : (xs ys : List (List ℕ)) → all_numbers (xs ++ ys) ≡ (all_numbers xs && all_numbers ys)
unfolding all_numbers
numbers-append [] ys = refl
numbers-append (x ∷ xs) ys = rw (numbers-append xs ys) (sym (and_assoc (is_number x) (all_numbers xs) (all_numbers ys)))

map-append : (xs ys : List (List ℕ)) → map value (xs ++ ys) ≡ map value xs ++ map value ys
map-append [] ys = refl
map-append (x ∷ xs) ys = ap (λ (l : List ℕ). value x ∷ l) (map-append xs ys)

-- a word that says a number is one
said-number : (w : List ℕ) (n : ℕ) → number_in w ≡ Some n → (is_number w ≡ true) × (value w ≡ n)
unfolding number_in
said-number w n e = go (ltb 0 (length w)) (is_number w) e
  where
    go : (a b : Bool) → cond (a && b) (Some (value w)) None ≡ Some n → (b ≡ true) × (value w ≡ n)
    go true true e = (refl, cc)
    go true false e = let z : ◌≡◌ {A = ℕ} 0 1 = cc in absurd (omega arith)
    go false b e = let z : ◌≡◌ {A = ℕ} 0 1 = cc in absurd (omega arith)

pub number_small : (w : List ℕ) (n : ℕ) → number_in w ≡ Some n → n ≤ 4294967295
unfolding is_number
number_small w n e =
    let is = said-number w n e in
    let most = leb-true (value w) 4294967295 ((and-eq-true_iff (all_digits w) (leb (value w) 4294967295)).0 is.0).1 in
    omega (arith, is.1)

-- and one with a byte that says none is none
said-none : (w : List ℕ) → 0 < length w → number_in w ≡ None → is_number w ≡ false
unfolding number_in
said-none w h e = go (is_number w) (rw (lt-ltb 0 (length w) h) at e)
  where
    go : (b : Bool) → cond b (Some (value w)) None ≡ None → b ≡ false
    go true e = let z : ◌≡◌ {A = ℕ} 0 1 = cc in absurd (omega arith)
    go false e = refl

pub seen_more : {words left : List (List ℕ)} {numbers : List ℕ} {count : ℕ} (w : List ℕ) (n : ℕ) → Seen words (w ∷ left) numbers count → number_in w ≡ Some n → count < 125
    → Seen words left (set numbers count n) (count + 1)
unfolding all_numbers
seen_more {words} {left} {numbers} {count} w n s e h =
    let is = said-number w n e in
    record {
      seen = s.seen ++ (w ∷ []);
      all = s.all ∙ sym (append_assoc s.seen (w ∷ []) left);
      right = numbers-append s.seen (w ∷ []) ∙ rw (s.right, is.0) refl;
      held = rw (add-one, take-suc-set numbers count n (omega (arith, s.room)), s.held, map-append s.seen (w ∷ []), is.1);
      long = length-append s.seen (w ∷ []) ∙ omega (arith, s.long);
      few = omega arith;
      room = length-set numbers count n ∙ s.room;
    }

pub seen_all : {words : List (List ℕ)} {numbers : List ℕ} {count : ℕ} → Seen words [] numbers count → NumbersRead words numbers (Some count)
seen_all {words} {numbers} {count} s =
    let same : words ≡ s.seen = s.all ∙ append-nil s.seen in
    record {
      right = sym (rw (same, s.right, le-leb (length s.seen) 125 (omega (arith, s.long, s.few))) refl);
      held = λ n e. let is : count ≡ n = cc in rw (← is) (s.few, s.held ∙ ap (map value) (sym same));
      long = s.room;
    }

refused : (words : List (List ℕ)) (numbers : List ℕ) → (all_numbers words && leb (length words) 125) ≡ false → length numbers ≡ 125
    → NumbersRead words numbers None
refused words numbers e l = record { right = sym e; held = λ n p. let z : ◌≡◌ {A = ℕ} 0 1 = cc in absurd (omega arith); long = l }

pub seen-wrong : {words left : List (List ℕ)} {numbers : List ℕ} {count : ℕ} (w : List ℕ) → 0 < length w → Seen words (w ∷ left) numbers count → number_in w ≡ None
    → NumbersRead words numbers None
unfolding all_numbers
seen-wrong {words} {left} {numbers} {count} w h s e =
    refused words numbers (rw (s.all, numbers-append s.seen (w ∷ left), said-none w h e, and-false)) s.room

pub seen-full : {words left : List (List ℕ)} {numbers : List ℕ} {count : ℕ} (w : List ℕ) → Seen words (w ∷ left) numbers count → count ≡ 125
    → NumbersRead words numbers None
seen-full {words} {left} {numbers} {count} w s e =
    let long : 125 < length words = omega (arith, ap length s.all, length-append s.seen (w ∷ left), s.long) in
    refused words numbers (rw (lt-leb (length words) 125 long) (and-false (all_numbers words))) s.room
