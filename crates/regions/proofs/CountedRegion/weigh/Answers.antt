-- `regions::CountedRegion::weigh` meets its contract: the sums are those of the definitions, and fit in 64 bits.
use Prim.Native.Nat.{ℕ, ◌+◌, ◌*◌, ◌≤◌, ◌-◌, min}
use mathlib.Core.Path.{◌≡◌, sym, ap, ap₂, ◌∙◌}
use mathlib.Core.Bool.{Bool, true, false, cond, not, ◌&&◌, ◌||◌, and-true}
use native.Mathlib.Omega.{arith}
use lib.Dec.{eqb, leb}
use Rattle.model.specs.Task.{Task, second_limit}
use Rattle.model.specs.Regions.{armed_after, switch_ticks, region_cost, region_length, region_fits}
use Rattle.model.specs.declared.Header.{Header}
use Rattle.model.proofs.Regions.{within_both}
use Rattle.regions.specs.Measures.{Counted}
use Rattle.regions.specs.declared.CountedRegion.{CountedRegion}
use Rattle.regions.proofs.Widths.{cost-le}
use Rattle.regions.proofs.CountedRegion.weigh.Goals as goal
use Rattle.regions.proofs.CountedRegion.weigh.Goals.{After-struct_known-2-1}

small : (c : goal.After-struct_known-2-1) → c.args.header.reload * c.args.self.lines ≤ 4294967295 * 512
small c = cost-le 512 {reload = c.args.header.reload} (omega arith) (omega arith)

pub overflow_mul-reloads : goal.overflow_mul-reloads
overflow_mul-reloads c = omega (arith, small (goal.at.overflow_mul-reloads c).After-struct_known-2-1)

pub overflow_add-cost : goal.overflow_add-cost
overflow_add-cost c = omega (arith, small (goal.at.overflow_add-cost c).After-struct_known-2-1)

pub overflow_add-length : goal.overflow_add-length
overflow_add-length c = omega (arith, small (goal.at.overflow_add-length c).After-struct_known-2-1)

-- the smaller of the limits that count, and the two of the definition
within : (armed : Bool) (l q q2 : ℕ) → leb l (cond armed (min q q2) q) ≡ (leb l q && (not armed || leb l q2))
within true l q q2 = sym (within_both l q q2)
within false l q q2 = sym (and-true (leb l q))

-- what a region's numbers come to
module _ (t : Task) (header : Header) (e : header ≡ t.header) (r : CountedRegion) (switch : ℕ) (at : switch ≡ cond (eqb r.from 0) 0 header.switch) (counted : Counted t r) where
  costs : header.reload * r.lines + switch ≡ region_cost t r.from r.to
  unfolding region_cost switch_ticks
  costs =
      ap₂ ◌+◌ (ap₂ ◌*◌ (ap (λ (h : Header). h.reload) e) counted.lines)
      (at ∙ ap (λ (h : Header). cond (eqb r.from 0) 0 h.switch) e)

  lasts : r.run.time + (header.reload * r.lines + switch) ≡ region_length t r.from r.to
  unfolding region_length
  lasts = ap₂ ◌+◌ counted.run.time-is costs

  fits : leb (r.run.time + (header.reload * r.lines + switch)) r.run.limit ≡ region_fits t r.from r.to
  unfolding region_fits
  fits =
      ap₂ leb lasts counted.run.limit_is ∙
      within (armed_after t r.from (r.to - r.from)) (region_length t r.from r.to) t.header.limit (second_limit t)

pub returns : goal.returns
returns c =
    let switch = c.switch_at in
    let header = c.args.header in
    let region = c.args.self in
    record {
      length = λ t e counted. lasts t header e region switch.result switch.ensures counted;
      cost = λ t e counted. costs t header e region switch.result switch.ensures counted;
      fits = λ t e counted. fits t header e region switch.result switch.ensures counted;
      small = omega (arith, small (goal.at.returns c).After-struct_known-2-1);
    }
