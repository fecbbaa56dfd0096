-- The groups of records that make basic blocks: how many there are, where each begins, how long it is, and whether all times fit. The
-- first group is as long as any.
-- Assumes nothing.
use Rattle.std.specs.Prelude.{Err}
use Rattle.model.specs.Answers.{accept}
use Prim.Native.Nat.{ℕ, zero, suc, ◌+◌, ◌-◌, ◌*◌, ◌<◌, ◌≤◌, min}
use mathlib.Core.Path.{◌≡◌, refl, sym, ap, ◌∙◌}
use mathlib.Core.Bool.{Bool, true, false, cond, ◌&&◌, and-false, and-eq-true_iff}
use mathlib.Core.Logic.{by_cases}
use mathlib.Core.List.{List}
use native.Mathlib.Nat.{zero-add, add-zero, add-suc, suc-add, zero-mul, one-mul, suc-mul, mul-le-mul_right, le-div_iff_mul-le, div-lt_iff_lt-mul}
use native.Mathlib.Decide.{dec_le}
use native.Mathlib.Omega.{arith}
use borrow.Author.Tests.{le-leb, lt-leb, leb-true}
use lib.Dec.{leb}
use lib.ListN.{length, take, drop, length-take, length-drop}
use lib.Seq.{take_all}
use Rattle.model.specs.Task.{Block}
use Rattle.model.specs.declared.Refusal.TheVariants.{WrongTrace}
use Rattle.model.proofs.Verdicts.{row-holds}
use Rattle.taskfile.specs.File.{collect}
use Rattle.tracing.specs.Traces.{blocks_for, traced_block, group_at, traced_blocks}
use Rattle.tracing.specs.Calls.{settings_in_range, times_fit, records_row, Traceable}
use Rattle.tracing.specs.declared.Settings.{Settings}

-- a block begins before the records end, and there is no more than is needed
module _ (n g : ℕ) (least : 1 ≤ g) where
  pub group-begins : (i : ℕ) → i < blocks_for n g → i * g < n
  unfolding blocks_for
  group-begins i h =
      let up : suc i * g ≤ n + g - 1 = (le-div_iff_mul-le {k = g} {x = suc i} {y = n + g - 1} (omega arith)).0 h in
      let e : suc i * g ≡ i * g + g = suc-mul i g in
      omega arith

  pub blocks-most : (k : ℕ) → n ≤ k * g → blocks_for n g ≤ k
  unfolding blocks_for
  blocks-most k h =
      let e : suc k * g ≡ k * g + g = suc-mul k g in
      let up : blocks_for n g < suc k = (div-lt_iff_lt-mul {k = g} {x = n + g - 1} {y = suc k} (omega arith)).1 (omega arith) in
      omega arith

  pub blocks-least : 1 ≤ n → 1 ≤ blocks_for n g
  unfolding blocks_for
  blocks-least h = (le-div_iff_mul-le {k = g} {x = 1} {y = n + g - 1} (omega arith)).1 (rw one-mul (omega arith))

-- what is in a group
pub group-length : (g : ℕ) (addresses : List ℕ) (i : ℕ) → length (group_at g addresses i) ≡ min g (length addresses - i * g)
unfolding group_at
group-length g addresses i = simp (length-take, length-drop)

-- times

fits_all : (f : ℕ → Block) (a n : ℕ) → ((i : ℕ) → (f i).time ≤ 4294967295) → times_fit (collect f a n) ≡ true
unfolding times_fit collect
fits_all f a zero h = refl
fits_all f a (suc n) h = rw (le-leb (f a).time 4294967295 (h a), fits_all f (suc a) n h)

fits-at : (f : ℕ → Block) (a n i : ℕ) → times_fit (collect f a n) ≡ true → i < n → (f (a + i)).time ≤ 4294967295
unfolding times_fit collect
fits-at f a zero i e h = absurd (omega arith)
fits-at f a (suc n) zero e h = rw add-zero (leb-true _ _ ((and-eq-true_iff (leb (f a).time 4294967295) (times_fit (collect f (suc a) n))).0 e).0)
fits-at f a (suc n) (suc i) e h =
    rw (add-suc, ← suc-add)
    (fits-at f (suc a) n i ((and-eq-true_iff (leb (f a).time 4294967295) (times_fit (collect f (suc a) n))).0 e).1 (omega arith))

-- a time above 0 is that of a block with records
group-some : (n g ticks most : ℕ) → most < min n g * ticks → 1 ≤ g
group-some n zero ticks most h =
    let none : min n 0 ≡ 0 = omega arith in
    let e : min n 0 * ticks ≡ 0 = rw none (zero-mul ticks) in
    absurd (omega arith)
group-some n (suc g) ticks most h = omega arith

module _ (s : Settings) (addresses : List ℕ) where
  abbrev time_at : ℕ → ℕ
  time_at i = length (group_at s.group addresses i) * s.ticks

  -- a group's time is at most that of the longest block
  time-most : (i : ℕ) → time_at i ≤ min (length addresses) s.group * s.ticks
  time-most i = mul-le-mul_right s.ticks (rw group-length (omega arith))

  time-first : time_at 0 ≡ min (length addresses) s.group * s.ticks
  time-first = ap (λ (n : ℕ). n * s.ticks) (rw (group-length, zero-mul) (omega arith))

  pub none-refused : length addresses ≡ 0 → Err WrongTrace ≡ records_row s addresses
  unfolding records_row
  none-refused e = rw (lt-leb 1 (length addresses) (omega arith))

  pub many-refused : 64 * s.group < length addresses → Err WrongTrace ≡ records_row s addresses
  unfolding records_row
  many-refused h = simp (lt-leb (length addresses) (64 * s.group) h, and-false)

  module _ (some : 1 ≤ length addresses) where
    pub records-accepted : length addresses ≤ 64 * s.group → min (length addresses) s.group * s.ticks ≤ 4294967295
        → accept ≡ records_row s addresses
    unfolding records_row traced_blocks traced_block
    records-accepted few h =
        rw (
          le-leb 1 (length addresses) some,
          le-leb (length addresses) (64 * s.group) few,
          fits_all (λ i. traced_block s (group_at s.group addresses i)) 0 (blocks_for (length addresses) s.group) (λ i. omega (arith, time-most i)),
        )

    too_long : 4294967295 < min (length addresses) s.group * s.ticks → times_fit (traced_blocks s addresses) ≡ true → ⊥
    unfolding traced_blocks traced_block
    too_long h e =
        let least : 1 ≤ s.group = group-some (length addresses) s.group s.ticks 4294967295 h in
        let first = fits-at (λ i. traced_block s (group_at s.group addresses i)) 0 _ 0 e (blocks-least (length addresses) s.group least some) in
        omega (arith, first, time-first)

    pub long-refused : 4294967295 < min (length addresses) s.group * s.ticks → Err WrongTrace ≡ records_row s addresses
    unfolding records_row
    long-refused h = go (times_fit (traced_blocks s addresses)) (too_long h)
      where
        go : (t : Bool) → (t ≡ true → ⊥)
            → Err WrongTrace ≡ cond (leb 1 (length addresses) && leb (length addresses) (64 * s.group) && t) accept (Err WrongTrace)
        go false e = rw and-false
        go true e = absurd (e refl)

-- what is known once nothing is refused
pub record Known (s : Settings) (addresses : List ℕ) : Type 0 where
  pub lines-least : 1 ≤ s.line_count
  pub lines-most : s.line_count ≤ 512
  pub size-least : 1 ≤ s.size
  pub group-least : 1 ≤ s.group
  pub group-most : s.group ≤ 124
  pub some : 1 ≤ length addresses
  pub few : length addresses ≤ 64 * s.group
  pub blocks-few : blocks_for (length addresses) s.group ≤ 64
  pub blocks-some : 1 ≤ blocks_for (length addresses) s.group
  pub time : (i : ℕ) → i < blocks_for (length addresses) s.group → length (group_at s.group addresses i) * s.ticks ≤ 4294967295

pub known : (s : Settings) (addresses : List ℕ) → Traceable s addresses → Known s addresses
unfolding settings_in_range records_row traced_blocks traced_block
known s addresses t =
    let a = (and-eq-true_iff (leb 1 s.line_count && leb s.line_count 512 && leb 1 s.size && leb 1 s.group) (leb s.group 124)).0 t.in-range in
    let b = (and-eq-true_iff (leb 1 s.line_count && leb s.line_count 512 && leb 1 s.size) (leb 1 s.group)).0 a.0 in
    let c = (and-eq-true_iff (leb 1 s.line_count && leb s.line_count 512) (leb 1 s.size)).0 b.0 in
    let d = (and-eq-true_iff (leb 1 s.line_count) (leb s.line_count 512)).0 c.0 in
    let n = length addresses in
    let r = row-holds WrongTrace _ t.records in
    let e = (and-eq-true_iff (leb 1 n && leb n (64 * s.group)) (times_fit (traced_blocks s addresses))).0 r in
    let f = (and-eq-true_iff (leb 1 n) (leb n (64 * s.group))).0 e.0 in
    let least : 1 ≤ s.group = leb-true _ _ b.1 in
    let some : 1 ≤ n = leb-true _ _ f.0 in
    let few : n ≤ 64 * s.group = leb-true _ _ f.1 in
    record {
      lines-least = leb-true _ _ d.0;
      lines-most = leb-true _ _ d.1;
      size-least = leb-true _ _ c.1;
      group-least = least;
      group-most = leb-true _ _ a.1;
      some = some;
      few = few;
      blocks-few = blocks-most n s.group least 64 few;
      blocks-some = blocks-least n s.group least some;
      time = λ i h. rw zero-add at (fits-at (λ i. traced_block s (group_at s.group addresses i)) 0 (blocks_for n s.group) i e.1 h);
    }

-- and of a block i
pub record Inside (s : Settings) (addresses : List ℕ) (i : ℕ) : Type 0 where
  pub begins : i * s.group < length addresses
  pub records : length addresses ≤ 7936
  pub block : i < 64
  pub group : s.group ≤ 124
  pub size : 1 ≤ s.size
  pub time : length (group_at s.group addresses i) * s.ticks ≤ 4294967295

pub inside : {s : Settings} {addresses : List ℕ} {blocks i : ℕ} → Traceable s addresses × (blocks ≡ blocks_for (length addresses) s.group)
    → i < blocks → Inside s addresses i
inside {s} {addresses} {blocks} {i} p h =
    let k = known s addresses p.0 in
    let below : i < blocks_for (length addresses) s.group = omega (arith, p.1) in
    record {
      begins = group-begins (length addresses) s.group k.group-least i below;
      records = omega arith;
      block = omega arith;
      group = k.group-most;
      size = k.size-least;
      time = k.time i below;
    }

-- the part of the records that a block takes
group-part : (g : ℕ) (addresses : List ℕ) (i : ℕ) → i * g < length addresses
    → take (min (i * g + g) (length addresses) - i * g) (drop (i * g) addresses) ≡ group_at g addresses i
unfolding group_at
group-part g addresses i h = by_cases (dec_le (i * g + g) (length addresses)) whole rest
  where
    whole : i * g + g ≤ length addresses → take (min (i * g + g) (length addresses) - i * g) (drop (i * g) addresses) ≡ take g (drop (i * g) addresses)
    whole w = let all : min (i * g + g) (length addresses) - i * g ≡ g = omega arith in rw all

    rest : (i * g + g ≤ length addresses → ⊥) → take (min (i * g + g) (length addresses) - i * g) (drop (i * g) addresses) ≡ take g (drop (i * g) addresses)
    rest w =
        let long : length (drop (i * g) addresses) ≡ length addresses - i * g = length-drop (i * g) addresses in
        take_all (min (i * g + g) (length addresses) - i * g) (drop (i * g) addresses) (omega arith) ∙ sym (take_all g (drop (i * g) addresses) (omega arith))

pub group-taken : (g : ℕ) (addresses : List ℕ) (i to : ℕ) → i * g < length addresses → to ≡ min (i * g + g) (length addresses)
    → take (to - i * g) (drop (i * g) addresses) ≡ group_at g addresses i
group-taken g addresses i to h e = rw e (group-part g addresses i h)

pub group-few : (s : Settings) → settings_in_range s ≡ true → s.group ≤ 124
unfolding settings_in_range
group-few s e =
    let others = leb 1 s.line_count && leb s.line_count 512 && leb 1 s.size && leb 1 s.group in
    leb-true _ _ ((and-eq-true_iff others (leb s.group 124)).0 e).1
