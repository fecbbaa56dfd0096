-- The charges of the walk that counts a list's lines: what each preempter was charged for the
-- regions before, and for the reads so far of the region that the walk is in. A preempter's lines
-- are a part of H, and a read that loads its line adds one to the charge of the line's first
-- preempter alone. Assumes nothing.
use Prim.Native.Nat.{ℕ, suc, ◌+◌, ◌*◌, ◌%◌, ◌≤◌, ◌<◌}
use mathlib.Core.Path.{◌≡◌, refl, sym, ◌∙◌}
use mathlib.Core.Bool.{Bool, true, false, cond, ◌&&◌}
use mathlib.Core.List.{List}
use mathlib.Core.Logic.{inl, inr, by_cases}
use native.Mathlib.Decide.{ℕ_discrete}
use native.Mathlib.Nat.{add-zero, zero-add}
use native.Mathlib.Omega.{arith}
use lib.Dec.{eqb, ltb}
use lib.ListN.{length, get_or, set, replicate, length-set, get_or-replicate}
use lib.Seq.{get_or-set_same, get_or-set_other, ext_get_or}
use borrow.Author.Tests.{eq-eqb, ne_eqb, lt-ltb}
use Rattle.model.specs.Sets.{Lines, bit, table}
use Rattle.model.specs.Task.{Task, block_count, preempter_count}
use Rattle.model.specs.Lines.{same_block, block_at, evicted}
use Rattle.model.specs.Lists.{total}
use Rattle.model.specs.Charges.{first_touching, is_at, charged_to, region_charge, charge, charges}
use Rattle.model.specs.declared.Line.{Line}
use Rattle.model.specs.declared.Line.TheVariants.{Empty, Held}
use Rattle.model.proofs.Sets.{table-length, table_at}
use Rattle.model.proofs.Charges.{FirstOf, first_of}
use Rattle.model.proofs.Histories.{LiesOn}
use Rattle.model.proofs.Loads.{loaded_by, loaded-few, loaded-none, loaded-part}
use Rattle.model.proofs.ReadOrder.{edge}
use Rattle.reuse.specs.States.{mark_of}
use Rattle.pricing.proofs.Pricing.{regions_from, from_first, from_start, from_end, start_of}
use Rattle.pricing.proofs.Walk.{Known, known-loads}

-- the lines of H that are charged to preempter k
abbrev pub part : Task → ℕ → Lines
part t k c = evicted t c && charged_to t k c

-- in region r, after p reads of the task
pub record Charged (t : Task) (ps : List ℕ) (r p : ℕ) (cs : List ℕ) : Type 0 where
  pub behind : ℕ → ℕ
  pub few : (k : ℕ) → behind k ≤ r * 512
  pub long : length cs ≡ 32
  pub whole : (k : ℕ) → charge t ps k ≡ behind k + total (region_charge t k) (regions_from (block_count t) ps r (start_of t ps r))
  pub here : (k : ℕ) → k < 32 → get_or cs k 0 ≡ behind k + loaded_by t (part t k) (start_of t ps r) p

pub charged-none : (t : Task) (ps : List ℕ) → Charged t ps 0 (edge t 0) (replicate 32 0)
unfolding charge
charged-none t ps =
    record {
      behind = λ k. 0;
      few = λ k. omega arith;
      long = refl;
      whole = λ k. rw (from_first, zero-add) refl;
      here = λ k h. get_or-replicate {A = ℕ} 32 k 0 0 h ∙ sym (zero-add _ ∙ loaded-none t (part t k) 0);
    }

-- a charge is small
pub charged-few : {t : Task} {ps : List ℕ} {r p : ℕ} {cs : List ℕ} → Charged t ps r p cs → (k : ℕ) → k < 32 → get_or cs k 0 ≤ r * 512 + 512
charged-few {t} {ps} {r} {p} w k h = omega (arith, w.here k h, w.few k, loaded-few t (part t k) (start_of t ps r) p)

module _ {t : Task} {ps : List ℕ} {r i : ℕ} {cs : List ℕ} (w : Charged t ps r (edge t i) cs) (h : r ≤ length ps)
    (e : get_or ps r (block_count t) ≡ i) (from : start_of t ps r ≤ i) (to : i ≤ block_count t) where
  -- the region ends here
  ended : (k : ℕ) → loaded_by t (part t k) (start_of t ps r) (edge t i) ≡ region_charge t k (start_of t ps r) (get_or ps r (block_count t))
  unfolding region_charge
  ended k = loaded-part t (charged_to t k) (start_of t ps r) i from to ∙ rw e refl

  whole-next : (k : ℕ) → charge t ps k
      ≡ w.behind k + region_charge t k (start_of t ps r) (get_or ps r (block_count t)) + total (region_charge t k) (regions_from (block_count t) ps (r + 1) (start_of t ps (r + 1)))
  unfolding total
  whole-next k = w.whole k ∙ rw (from_start t ps r h) (omega arith)

  -- and the next one starts
  pub charged-region : start_of t ps (r + 1) ≡ i → Charged t ps (r + 1) (edge t i) cs
  charged-region next =
      record {
        behind = λ k. w.behind k + region_charge t k (start_of t ps r) (get_or ps r (block_count t));
        few = λ k. omega (arith, w.few k, sym (ended k), loaded-few t (part t k) (start_of t ps r) (edge t i));
        long = w.long;
        whole = whole-next;
        here = λ k l. w.here k l ∙ rw (next, loaded-none t (part t k) i, ended k) (sym (add-zero _));
      }

  -- or it was the last
  pub charged-all : r ≡ length ps → cs ≡ charges t ps
  unfolding charges total
  charged-all last =
      ext_get_or 0 cs (table 32 (charge t ps)) (w.long ∙ sym (table-length 32 (charge t ps)))
      (λ k l.
      let low : k < 32 = omega (arith, w.long) in
      w.here k low ∙ rw (ended k) (sym (table_at 32 (charge t ps) k low ∙ whole-next k ∙ rw (from_end (block_count t) ps (r + 1) (start_of t ps (r + 1)) (omega arith)) (add-zero _))))

-- a line's mark says whether it is of H, and whose it is
module _ (t : Task) (most : preempter_count t ≤ 32) (line mark : ℕ) (is : mark ≡ mark_of (first_touching t line)) where
  pub mark-tells : ltb mark 32 ≡ evicted t line
  mark-tells = go (first_of t line)
    where
      go : FirstOf (preempter_count t) (evicted t line) (first_touching t line) → ltb mark 32 ≡ evicted t line
      go (inl none) = rw (is, none.0, none.1) refl
      go (inr some) = rw (is, some.0, some.1.is-at) (lt-ltb some.1.index 32 (omega (arith, some.1.below)))

  one-owner : (k : ℕ) → k < 32 → (x y z : Bool) → bit (part t k line && x && y && z) ≡ cond (eqb k (mark % 32)) (bit (evicted t line && x && y && z)) 0
  unfolding charged_to
  one-owner k l x y z = go (first_of t line)
    where
      none_here : (b : Bool) → ◌≡◌ {A = ℕ} 0 (cond b 0 0)
      none_here true = refl
      none_here false = refl

      one-here : (b : Bool) → bit (b && x && y && z) ≡ cond b (bit (x && y && z)) 0
      one-here true = refl
      one-here false = refl

      go : FirstOf (preempter_count t) (evicted t line) (first_touching t line)
          → bit (evicted t line && is_at k (first_touching t line) && x && y && z) ≡ cond (eqb k (mark % 32)) (bit (evicted t line && x && y && z)) 0
      go (inl none) = rw none.0 (none_here (eqb k (mark % 32)))
      go (inr some) =
          let own : mark % 32 ≡ some.1.index = rw (is, some.1.is-at) (omega (arith, some.1.below)) in
          rw (some.0, some.1.is-at, own) (one-here (eqb k some.1.index))

-- read j of block i + 1, of number m
module _ (t : Task) (i j m : ℕ) (hi : i < block_count t) (hj : j < length (block_at t i).reads) (is : get_or (block_at t i).reads j 0 ≡ m)
    {ps : List ℕ} {r : ℕ} {cs : List ℕ} (l : start_of t ps r ≤ i) (w : Charged t ps r (edge t i + j) cs) where
  -- it lies on this line, which has this mark, or on none
  pub charged-more : {held : List Line} {since : List ℕ} (known : Known t (edge t i + j) (suc i) r (start_of t ps r) held since) (line : ℕ) (on : Bool) → line < 512
      → LiesOn t m line on → preempter_count t ≤ 32 → (mark n : ℕ) → mark ≡ mark_of (first_touching t line)
      → n ≡ bit (evicted t line && on && same_block (get_or held line Empty) (Held m) && ltb (get_or since line 0) (suc r))
      → Charged t ps r (suc (edge t i + j)) (set cs (mark % 32) (get_or cs (mark % 32) 0 + n))
  charged-more {held} {since} known line on hl at most mark n marked loads =
      record {
        behind = w.behind;
        few = w.few;
        long = length-set cs (mark % 32) _ ∙ w.long;
        whole = w.whole;
        here = λ k h.
            let more = known-loads t i j m hi hj is l known line on hl at (part t k) in
            let own = one-owner t most line mark marked k h on (same_block (get_or held line Empty) (Held m)) (ltb (get_or since line 0) (suc r)) in
            by_cases (ℕ_discrete k (mark % 32))
            (λ q.
            let mine = rw (eq-eqb k (mark % 32) q) at own in
            rw q (get_or-set_same cs (mark % 32) _ 0 (omega (arith, w.long)) ∙ rw (← q) (omega (arith, w.here k h, more, mine))))
            (λ q.
            let other = rw (ne_eqb k (mark % 32) q) at own in
            get_or-set_other cs (mark % 32) k _ 0 q ∙ omega (arith, w.here k h, more, other));
      }
