-- The places that a pass of the instant t has been at: the demand with what is due there, the least of their next instants, and those in the array; the other places
-- are as they were.
use Prim.Native.Nat.{ℕ, ◌+◌, ◌*◌, ◌≤◌, ◌<◌, min}
use mathlib.Core.Path.{◌≡◌, refl, sym, subst, ◌∙◌}
use mathlib.Core.List.{List}
use native.Mathlib.Omega.{arith}
use lib.ListN.{length, get_or, set}
use lib.Seq.{get_or-set_other}
use Rattle.demand.specs.Demand.{most_ticks}
use Rattle.demand.specs.Calls.{most_tasks}
use Rattle.demand.specs.Lanes.{Holds, Ranged, below, at_instant, moved}
use Rattle.demand.proofs.AtInstant.{at-itself, at-another, at_most}
use Rattle.demand.proofs.Joined.{joined-none, joined-more}
use Rattle.demand.proofs.Filling.{filled_none, filled_more, filled-still}

module _ (n : ℕ) (es ps xs₀ : List ℕ) (demanded t end : ℕ) where
  pub record Passing (i demand next : ℕ) (xs : List ℕ) : Type 0 where
    pub within : i ≤ n
    pub demand-is : demand ≡ demanded + below ◌+◌ 0 i (λ k. at_instant (get_or xs₀ k 0) t (get_or es k 0))
    pub demand-most : demand ≤ demanded + i * most_ticks
    pub next-is : next ≡ below min end i (moved xs₀ ps t)
    pub gone : Holds (moved xs₀ ps t) i xs
    pub rest : (k : ℕ) → i ≤ k → get_or xs k 0 ≡ get_or xs₀ k 0

  pub passing-none : length xs₀ ≡ most_tasks → Passing 0 demanded end xs₀
  passing-none long =
      record {
        within = omega arith;
        demand-is = omega (arith, joined-none ◌+◌ 0 (λ k. at_instant (get_or xs₀ k 0) t (get_or es k 0)));
        demand-most = omega arith;
        next-is = joined-none _ _ _;
        gone = filled_none _ _ long;
        rest = λ k l. refl;
      }

  -- one place more, whatever the array then is
  passing-on : {i demand next : ℕ} {xs ys : List ℕ} {more step least : ℕ} → Ranged n es → i < n → Passing i demand next xs
      → more ≡ at_instant (get_or xs i 0) t (get_or es i 0) → step ≡ moved xs₀ ps t i → least ≡ min next step
      → Holds (moved xs₀ ps t) (i + 1) ys → ((k : ℕ) → i + 1 ≤ k → get_or ys k 0 ≡ get_or xs k 0) → Passing (i + 1) (demand + more) least ys
  passing-on {i} {xs = xs} ranged l p m s e gone rest =
      let same = p.rest i (omega arith) in
      record {
        within = omega arith;
        demand-is = omega (arith, p.demand-is, joined-more ◌+◌ 0 i (λ k. at_instant (get_or xs₀ k 0) t (get_or es k 0)) refl (m ∙ rw same refl) refl);
        demand-most = omega (arith, p.demand-most, m, at_most (get_or xs i 0) t (get_or es i 0), ranged i l);
        next-is = joined-more _ _ _ _ p.next-is s e;
        gone = gone;
        rest = λ k h. rest k h ∙ p.rest k (omega arith);
      }

  -- its instant is t: the task goes on by its period
  pub passing-here : {i demand next : ℕ} {xs : List ℕ} {least : ℕ} → Ranged n es → n ≤ most_tasks → i < n → Passing i demand next xs
      → get_or xs i 0 ≡ t → least ≡ min next (get_or xs i 0 + get_or ps i 0)
      → Passing (i + 1) (demand + get_or es i 0) least (set xs i (get_or xs i 0 + get_or ps i 0))
  passing-here {i} {xs = xs} ranged few l p here e =
      let same = p.rest i (omega arith) in
      let later : get_or xs i 0 + get_or ps i 0 ≡ moved xs₀ ps t i = rw (← same, here, at-itself t (get_or ps i 0)) in
      passing-on ranged l p (rw (here, at-itself t (get_or es i 0))) later e (filled_more _ _ _ _ (omega arith) later p.gone)
      (λ k h. get_or-set_other xs i k _ 0 (omega arith))

  -- it is another: nothing moves
  pub passing-past : {i demand next : ℕ} {xs : List ℕ} {least : ℕ} → Ranged n es → i < n → Passing i demand next xs
      → (get_or xs i 0 ≡ t → ⊥) → least ≡ min next (get_or xs i 0) → Passing (i + 1) demand least xs
  passing-past {i} {demand} {xs = xs} {least} ranged l p other e =
      let same = p.rest i (omega arith) in
      let still : get_or xs i 0 ≡ moved xs₀ ps t i = rw (← same, at-another (get_or xs i 0) t (get_or ps i 0) other) (omega arith) in
      subst (λ (d : ℕ). Passing (i + 1) d least xs) (omega arith)
      (passing-on ranged l p (sym (at-another (get_or xs i 0) t (get_or es i 0) other)) still e (filled-still _ _ _ still p.gone) (λ k h. refl))
