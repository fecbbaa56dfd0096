-- What the methods' stores do to the lines that the words hold, and that a set's words are those of its lines.
-- Assumes nothing.
use mathlib.Core.Bool.{Bool, true, false, cond, ◌&&◌, ◌||◌, and-false}
use mathlib.Core.List.{List, [], ◌∷◌}
use mathlib.Core.Logic.{by_cases}
use mathlib.Core.Path.{◌≡◌, refl, sym, ap, ◌∙◌}
use Prim.Native.Nat.{ℕ, zero, suc, ◌+◌, ◌*◌, ◌/◌, ◌%◌, ◌^◌, ◌≤◌, ◌<◌}
use native.Mathlib.Decide.{dec_lt, ℕ_discrete}
use native.Mathlib.Nat.{not-suc-le-zero, le_refl}
use native.Mathlib.Omega.{arith}
use borrow.Author.Count.{below_more}
use borrow.Author.Tests.{eq-eqb, ne_eqb, lt-ltb, le-ltb}
use lib.Bits.{bit_and, bit_or, and_mask}
use lib.Count.{ones}
use lib.Dec.{eqb, ltb}
use lib.ListN.{length, get_or, set, replicate, length-set}
use lib.Seq.{get_or-set_same, get_or-set_other}
use Rattle.std.specs.Prelude.{sum_by}
use Rattle.std.proofs.lemmas.List.Sums.{sum_by-cons}
use Rattle.model.specs.Sets.{Lines, size, digit, words, in_words}
use Rattle.model.specs.Laws.{one_bits}
use Rattle.model.proofs.Digits.{digit-of-zero, digit_or, digit-shl, count-le}
use Rattle.model.proofs.Sets.{Eight, in-eight-above, words-in, words-agree, size-is-ones}
use Rattle.lineset.specs.Members.{members}
use Rattle.lineset.specs.declared.LineSet.{LineSet}

-- ---- no line

pub zeros-at : (n k : ℕ) → get_or (replicate n 0) k 0 ≡ zero
zeros-at zero k = refl
zeros-at (suc n) zero = refl
zeros-at (suc n) (suc k) = zeros-at n k

pub in-zeros : (n d : ℕ) → in_words (replicate n 0) d ≡ false
unfolding in_words
in-zeros n d = rw (zeros-at n (d / 64)) (digit-of-zero (d % 64))

-- ---- a line of a word

eqb-low : (d line : ℕ) → d / 64 ≡ line / 64 → eqb (d % 64) (line % 64) ≡ eqb d line
eqb-low d line q = go (ℕ_discrete d line)
  where
    go : Dec (d ≡ line) → eqb (d % 64) (line % 64) ≡ eqb d line
    go (yes e) = eq-eqb _ _ (ap (λ (x : ℕ). x % 64) e) ∙ sym (eq-eqb d line e)
    go (no n) = ne_eqb _ _ (λ (e : d % 64 ≡ line % 64). n (omega arith)) ∙ sym (ne_eqb d line n)

-- ---- each of the eight words joined with a number of its own

-- of the words rs, those below w are joined from xs and y, and the others are those of xs
pub record Joined (op : ℕ → ℕ → ℕ) (xs : List ℕ) (y : ℕ → ℕ) (w : ℕ) (rs : List ℕ) : Type 0 where
  pub long : length rs ≡ 8
  pub done : (k : ℕ) → k < w → get_or rs k 0 ≡ op (get_or xs k 0) (y k)
  pub rest : (k : ℕ) → w ≤ k → get_or rs k 0 ≡ get_or xs k 0

module _ (op : ℕ → ℕ → ℕ) (xs : List ℕ) (y : ℕ → ℕ) where
  pub joined-none : length xs ≡ 8 → Joined op xs y 0 xs
  joined-none e = record { long = e; done = λ k h. absurd (not-suc-le-zero h); rest = λ k h. refl }

  pub joined-more : (w : ℕ) (rs : List ℕ) → w < 8 → Joined op xs y w rs → Joined op xs y (w + 1) (set rs w (op (get_or rs w 0) (y w)))
  joined-more w rs l j =
      let v : ℕ = op (get_or rs w 0) (y w) in
      record {
        long = length-set rs w v ∙ j.long;
        done =
            below_more _ w (λ k h. get_or-set_other rs w k v 0 (λ e. omega arith) ∙ j.done k h)
            (get_or-set_same rs w v 0 (omega (arith, j.long)) ∙ ap (λ (x : ℕ). op x (y w)) (j.rest w (le_refl w)));
        rest = λ k h. get_or-set_other rs w k v 0 (λ e. omega arith) ∙ j.rest k (omega arith);
      }

  -- an operation that joins digits joins lines
  in-joined : (f : Bool → Bool → Bool) → ((a b j : ℕ) → digit (op a b) j ≡ f (digit a j) (digit b j)) → (w : ℕ) (rs : List ℕ) → 8 ≤ w
      → Joined op xs y w rs → (d : ℕ) → d < 512 → in_words rs d ≡ f (in_words xs d) (digit (y (d / 64)) (d % 64))
  unfolding in_words
  in-joined f dig w rs l j d h = rw (j.done (d / 64) (omega arith)) (dig (get_or xs (d / 64) 0) (y (d / 64)) (d % 64))

-- two sets joined word by word
pub in_both : (op : ℕ → ℕ → ℕ) (xs ys : List ℕ) (f : Bool → Bool → Bool) → f false false ≡ false
    → ((a b j : ℕ) → digit (op a b) j ≡ f (digit a j) (digit b j)) → length xs ≡ 8 → length ys ≡ 8 → (w : ℕ) (rs : List ℕ) → 8 ≤ w
    → Joined op xs (λ k. get_or ys k 0) w rs → (d : ℕ) → in_words rs d ≡ f (in_words xs d) (in_words ys d)
unfolding in_words
in_both op xs ys f z dig ex ey w rs l j d =
    by_cases (dec_lt d 512) (in-joined op xs (λ k. get_or ys k 0) f dig w rs l j d)
    (λ h. in-eight-above rs j.long d (omega arith) ∙ sym (rw (in-eight-above xs ex d (omega arith), in-eight-above ys ey d (omega arith)) z))

-- what `with` joins with word k: the line's digit in the line's word, and 0 in the others
abbrev pub mask : ℕ → ℕ → ℕ
mask line k = cond (eqb k (line / 64)) (1 * 2 ^ bit_and line 63 % 2 ^ 64) 0

-- the line is added to the set; a line of 512 or more is in none of the words
pub in-with : (ws : List ℕ) (line w : ℕ) (rs : List ℕ) → length ws ≡ 8 → 8 ≤ w → Joined bit_or ws (mask line) w rs
    → (d : ℕ) → in_words rs d ≡ (in_words ws d || ltb line 512 && eqb d line)
in-with ws line w rs e l j d = by_cases (dec_lt d 512) below above
  where
    digit_mask : (b : Bool) → digit (cond b (1 * 2 ^ bit_and line 63 % 2 ^ 64) 0) (d % 64) ≡ (b && eqb (d % 64) (line % 64))
    digit_mask true = rw (and_mask line 6) (digit-shl true 64 (line % 64) (d % 64) (omega arith))
    digit_mask false = digit-of-zero (d % 64)

    one-digit : (eqb (d / 64) (line / 64) && eqb (d % 64) (line % 64)) ≡ eqb d line
    one-digit =
        by_cases (ℕ_discrete (d / 64) (line / 64)) (λ q. rw (eq-eqb (d / 64) (line / 64) q) (eqb-low d line q))
        (λ n. rw (ne_eqb (d / 64) (line / 64) n, ne_eqb d line (λ e. n (ap (λ (x : ℕ). x / 64) e))) refl)

    in-range : d < 512 → eqb d line ≡ (ltb line 512 && eqb d line)
    in-range h =
        by_cases (ℕ_discrete d line) (λ q. rw (lt-ltb line 512 (omega arith)) refl) (λ n. rw (ne_eqb d line n) (sym (and-false (ltb line 512))))

    below : d < 512 → in_words rs d ≡ (in_words ws d || ltb line 512 && eqb d line)
    below h =
        in-joined bit_or ws (mask line) ◌||◌ digit_or w rs l j d h ∙
        ap (λ (x : Bool). in_words ws d || x)
        (digit_mask (eqb (d / 64) (line / 64)) ∙ one-digit ∙ in-range h)

    above : (d < 512 → ⊥) → in_words rs d ≡ (in_words ws d || ltb line 512 && eqb d line)
    above h =
        in-eight-above rs j.long d (omega arith) ∙
        sym
        (rw (in-eight-above ws e d (omega arith))
        (by_cases (ℕ_discrete d line) (λ q. rw (le-ltb line 512 (omega arith)) refl) (λ n. rw (ne_eqb d line n) (and-false (ltb line 512)))))

-- ---- the lines counted

one_bits-sum : (ws : List ℕ) → one_bits ws ≡ sum_by ones ws
unfolding one_bits
one_bits-sum [] = refl
one_bits-sum (w ∷ ws) = ap (λ (n : ℕ). ones w + n) (one_bits-sum ws) ∙ sym (sum_by-cons ones w ws)

pub size-words : (ws : List ℕ) → Eight ws → size (in_words ws) ≡ sum_by ones ws
size-words ws e = size-is-ones (in_words ws) ∙ rw (words-in e) (one_bits-sum ws)

pub ones-fit : (ws : List ℕ) → Eight ws → sum_by ones ws < 2 ^ 32
ones-fit ws e = omega (arith, size-words ws e, count-le 512 (in_words ws))

-- a set's words are those of its members
pub set_words : (f : Lines) (s : LineSet) → Eight s.words → ((d : ℕ) → d < 512 → members s d ≡ f d) → s.words ≡ words f
set_words f s e h = sym (words-in e) ∙ words-agree h
