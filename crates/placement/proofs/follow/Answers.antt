-- `placement::follow` meets its contract. The loop's invariant: whatever list leads on from the edge that is reached, the points so far and that list lead from the first.
use Rattle.std.proofs.Common.{◌≡◌, ℕ, suc, ◌+◌, ◌-◌, ◌<◌, ◌≤◌, List, [], ◌∷◌, length, get_or, drop, set, replicate, sym, refl, ap, ◌∙◌, append_assoc, append-nil, add-one, arith, length-set, drop-drop, take-suc-set, drop-set-lt}
use native.Mathlib.Numerals.{lt-add-one}
use Rattle.placement.specs.Rows.{Leads, Rising, Followed}
use Rattle.placement.proofs.follow.Goals as goal
use Rattle.placement.proofs.follow.Invariants.{Reached}

fewer-zeros : (l : List ℕ) (i m : ℕ) → drop i l ≡ replicate (suc m) 0 → drop (i + 1) l ≡ replicate m 0
fewer-zeros l i m e = sym (drop-drop 1 i l) ∙ ap (drop 1) e

module _ {nexts : List ℕ} {n : ℕ} where
  first : Rising nexts n → 1 ≤ n → Reached nexts n (replicate 64 0) 0 (get_or nexts 0 0)
  first rising h = record { edge = rising.above 0 h; last = rising.within 0 h; long = refl; beyond = refl; leads = λ ps l. l }

  more : {points : List ℕ} {count a : ℕ} → Rising nexts n → n ≤ 64 → Reached nexts n points count a → a < n → Reached nexts n (set points count a) (count + 1) (get_or nexts a 0)
  unfolding Leads
  more {points} {count} {a} rising b r h =
      let within : count < length points = omega (arith, r.edge, r.long) in
      let one_less : 64 - count ≡ suc (64 - (count + 1)) = omega (arith, r.edge) in
      record {
        edge = omega (arith, rising.above a h, r.edge);
        last = rising.within a h;
        long = length-set points count a ∙ r.long;
        beyond = drop-set-lt (count + 1) points count a (lt-add-one count) ∙ fewer-zeros points count (64 - (count + 1)) (r.beyond ∙ ap (λ k. replicate k 0) one_less);
        leads = λ ps l. rw (add-one count, take-suc-set points count a within, append_assoc) (r.leads (a ∷ ps) (refl, h, l));
      }

  end : {points : List ℕ} {count a : ℕ} → Reached nexts n points count a → n ≤ a → Followed nexts n count points
  unfolding Leads
  end r h = record { leads = rw append-nil at (r.leads [] (omega (arith, r.last))); fewer = omega (arith, r.edge, r.last); beyond = r.beyond }

pub loop-at-init : goal.loop-at-init
loop-at-init c = first c.requires.2 c.requires.0

pub loop-at-smaller : goal.loop-at-smaller
loop-at-smaller c =
    let a = c.loop-at.at in
    omega (arith, c.requires.2.above a (omega arith))

pub loop-at-preserved : goal.loop-at-preserved
loop-at-preserved c = more c.requires.2 c.requires.1 c.loop-at.invariant (omega arith)

pub returns : goal.returns
returns c = end c.loop-at.invariant (omega arith)
