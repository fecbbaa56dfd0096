-- A run of basic blocks, and one block more: the sum of its times, and the limit that counts for it. Assumes nothing.
use Prim.Native.Nat.{ℕ, suc, ◌+◌, ◌-◌, ◌≤◌, min}
use mathlib.Core.Path.{◌≡◌, refl, ap, ap₂, ◌∙◌}
use mathlib.Core.Bool.{Bool, true, false, cond, ◌||◌}
use native.Mathlib.Omega.{arith}
use Rattle.model.specs.Task.{Task, second_limit}
use Rattle.model.specs.Lines.{block_at}
use Rattle.model.specs.Regions.{time_after, armed_after}
use Rattle.model.specs.declared.Header.{Header}
use Rattle.regions.specs.Measures.{RunBetween}
use Rattle.regions.specs.declared.Run.{Run}

pub run_none : (t : Task) (a : ℕ) (header : Header) → header ≡ t.header → RunBetween t a a record { time = 0; limit = header.limit }
unfolding time_after armed_after
run_none t a header e =
    let none : a - a ≡ 0 = omega arith in
    record { time-is = rw none refl; limit_is = rw none (ap (λ (h : Header). h.limit) e); small = omega arith }

-- a limit that one of two blocks brings
either : (x y : Bool) (both limit : ℕ) → cond y both (cond x both limit) ≡ cond (x || y) both limit
either true true both limit = refl
either true false both limit = refl
either false true both limit = refl
either false false both limit = refl

pub run_more : (t : Task) (a k x : ℕ) (y : Bool) (header : Header) (r l : Run) → a ≤ k → RunBetween t a k r → x ≡ (block_at t k).time → x ≤ 4294967295
    → y ≡ (block_at t k).armed → header ≡ t.header → l.time ≡ r.time + x → l.limit ≡ cond y (min header.limit header.second_limit) r.limit
    → RunBetween t a (k + 1) l
unfolding time_after armed_after
run_more t a k x y header r l h run ex small ey eh et el =
    let next : k + 1 - a ≡ suc (k - a) = omega arith in
    let there : a + (k - a) ≡ k = omega arith in
    let both = min t.header.limit (second_limit t) in
    record {
      time-is = et ∙ rw (next, there) (ap₂ ◌+◌ run.time-is ex);
      limit_is = rw (next, there)
          (el ∙ ap₂ (λ (s : Bool) (h : Header). cond s (min h.limit h.second_limit) r.limit) ey eh ∙
          ap (cond (block_at t k).armed both) run.limit_is ∙ either (armed_after t a (k - a)) (block_at t k).armed both t.header.limit);
      small = omega (arith, run.small, et);
    }
