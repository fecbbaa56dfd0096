-- Storing and reading undo one another: an accepted plan reads back whole, and a readable block's plan is stored as the same bytes.
-- Assumes nothing.
use Rattle.std.specs.Prelude.{Err}
use Prim.Native.Nat.{ℕ, ◌+◌, ◌-◌, ◌*◌, ◌^◌, ◌<◌, ◌≤◌}
use mathlib.Core.Path.{◌≡◌, refl, sym}
use mathlib.Core.Bool.{Bool, true, false, cond, and-eq-true_iff}
use mathlib.Core.List.{List, ◌++◌}
use native.Mathlib.Omega.{arith}
use lib.Dec.{eqb}
use lib.ListN.{length, take, drop, replicate, length-drop, length-replicate, get_or-replicate, take-append-drop}
use lib.Seq.{drop_at, get_or-take, get_or-drop, length-take-le, ext_get_or}
use mir.Syntax.{w16}
use mir.Val.{Fits}
use borrow.Author.Tests.{eqb-true, eq-eqb, le-ltb}
use Rattle.model.specs.Answers.{accept, accepted, output_row}
use Rattle.model.specs.declared.Plan.{Plan}
use Rattle.model.specs.declared.Refusal.TheVariants.{Length, Checksum, WrongBlock}
use Rattle.model.proofs.Verdicts.{never_both, is-accepted, both-accepted, output-accepts}
use Rattle.block.specs.Bytes.{le, packed, field, fields, Each}
use Rattle.block.specs.Blocks.{numbered, checksum_right, body_right}
use Rattle.block.proofs.Bytes.{length_fields}
use Rattle.block.proofs.Each.{each_of}
use Rattle.block.proofs.Packing.{number_at}
use Rattle.model.proofs.Lowest.{lowest-nowhere}
use Rattle.block.proofs.Blocks.{length-numbered, length-sealed, numbers-back, list_back, checksum-sealed, body-sealed, block-is}
use Rattle.planvalue.specs.Values.{point_right, plan_verdict}
use Rattle.planvalue.proofs.Verdicts.{accepted-parts, count-accepted}
use Rattle.planblock.specs.Plans.{plan_numbers, plan_named, plan_bytes, plan_of, plan_right, read_verdict, store_verdict, stored, PlanFits}
use Rattle.planblock.specs.Statements.{StoredReads, ReadStores}
use Rattle.planblock.proofs.Storing.{length-named}

module _ (p : Plan) (f : PlanFits p) (e : plan_verdict p ≡ accept) where
  small : p.count ≤ 63
  small = count-accepted p e

  named-long : length (plan_named p) ≡ 20 + 2 * p.count
  named-long = length-named p f.entries small

  body-long : length (numbered 0 (plan_named p)) ≡ 508
  body-long = length-numbered 0 (plan_named p) (omega (arith, named-long, small))

  long : length (plan_bytes p) ≡ 512
  unfolding plan_bytes
  long = length-sealed (numbered 0 (plan_named p)) body-long

  -- the entries from the count on are zero
  zeros : drop p.count p.points ≡ replicate (64 - p.count) 0
  unfolding point_right
  zeros =
      let long : length (drop p.count p.points) ≡ 64 - p.count = rw (length-drop, f.entries) in
      ext_get_or 0 (drop p.count p.points) (replicate (64 - p.count) 0) (rw (long, length-replicate))
      (λ i h.
      let right = lowest-nowhere (point_right p.blocks p.count p.points) 0 64 (accepted-parts p e).1 (p.count + i) (omega arith) (omega arith) in
      rw (get_or-drop, get_or-replicate {A = ℕ} (64 - p.count) i 0 0 (omega arith)) (eqb-true _ 0 (rw (le-ltb (p.count + i) p.count (omega arith)) at right)))

  numbers-read : field (plan_bytes p) ≡ (λ i v. number_at 0 (plan_numbers p) i v (field (plan_bytes p) i v))
  unfolding plan_bytes plan_named plan_numbers Each
  numbers-read =
      numbers-back 0 (plan_numbers p) 2 (take p.count p.points)
      (omega arith, (omega arith, (f.blocks, (f.count, (f.lines, (f.cost, (f.id, tt)))))))

  points-read : fields (plan_bytes p) 20 2 p.count ++ replicate (64 - p.count) 0 ≡ p.points
  unfolding plan_bytes plan_named plan_numbers packed le
  points-read =
      let ns : List ℕ = take p.count p.points in
      let n : length ns ≡ p.count = length-take-le p.count p.points (omega (arith, f.entries, small)) in
      let below : Each (λ m. m < 256 ^ 2) ns = each_of (λ m. m < 256 ^ 2) ns 0 (λ j h. rw (get_or-take p.count p.points j 0 (omega arith)) (f.points j)) in
      let stored = rw n at (list_back 0 (plan_numbers p) 2 ns 20 refl below) in
      rw (stored, ← zeros) (take-append-drop p.count p.points)

  plan-read : plan_of (plan_bytes p) ≡ p
  unfolding plan_of plan_numbers number_at
  plan-read = rw (numbers-read, points-read)

  -- what is stored reads back
  pub read_back : (read_verdict (plan_bytes p) ≡ accept) × (plan_of (plan_bytes p) ≡ p)
  unfolding read_verdict plan_right plan_bytes
  read_back = (
    rw (eq-eqb _ 512 long, checksum-sealed (numbered 0 (plan_named p)) body-long, plan-read, e, body-sealed 0 (plan_named p) (omega (arith, named-long, small))),
    plan-read,
  )

read-parts : (bs : List ℕ) → read_verdict bs ≡ accept → (checksum_right bs ≡ true) × (plan_right bs ≡ true)
unfolding read_verdict
read-parts bs e = go (eqb (length bs) 512) (checksum_right bs) (plan_right bs) e
  where
    go : (a b c : Bool) → cond a (cond b (cond c accept (Err (WrongBlock 0))) (Err (Checksum 0))) (Err Length) ≡ accept
        → (b ≡ true) × (c ≡ true)
    go true true true q = (refl, refl)
    go true true false q = absurd (never_both (sym q))
    go true false c q = absurd (never_both (sym q))
    go false b c q = absurd (never_both (sym q))

-- a readable block's plan is stored as the same bytes
pub store-back : (bs : List ℕ) → read_verdict bs ≡ accept → (plan_verdict (plan_of bs) ≡ accept) × (plan_bytes (plan_of bs) ≡ bs)
unfolding plan_right plan_bytes
store-back bs e =
    let parts = read-parts bs e in
    let right = (and-eq-true_iff (accepted (plan_verdict (plan_of bs))) (body_right 0 (plan_named (plan_of bs)) bs)).0 parts.1 in
    (is-accepted (plan_verdict (plan_of bs)) right.0, sym (block-is 0 (plan_named (plan_of bs)) bs parts.0 right.1))

-- the points of a block's plan are followed by zeros
pub zeros-after : (bs : List ℕ) → drop (plan_of bs).count (plan_of bs).points ≡ replicate (64 - (plan_of bs).count) 0
unfolding plan_of
zeros-after bs = drop_at (fields bs 20 2 (field bs 4 2)) (replicate (64 - field bs 4 2) 0) (field bs 4 2) (length_fields bs 20 2 (field bs 4 2))

-- the same of the calls: what `store` leaves in a buffer, `read` reads back, and what was read is stored as it was

pub stored-reads : StoredReads
unfolding store_verdict stored
stored-reads p out f e = rw e (read_back p f (both-accepted (output_row 512 (length out)) (plan_verdict p) e).1)

pub read-stores : ReadStores
unfolding store_verdict stored
read-stores bs out e l =
    let back = store-back bs e in
    rw (output-accepts 512 (length out) l, back.0) (refl, back.1)

-- with this lemma `search (rules, point-fits)` shows `PlanFits` of a plan that a function was passed
pub point-fits : (n : ℕ) → Fits w16 n → n < 2 ^ 16
point-fits n h = h.fits
