-- What the functions answer of a task t. Assumes nothing.
use Rattle.std.specs.Prelude.{ℕ, ◌-◌, ◌*◌, ◌^◌, ◌≤◌, ◌<◌, min, ◌≡◌, cond}
use Rattle.model.specs.Task.{Task, block_count, second_limit}
use Rattle.model.specs.Regions.{time_after, armed_after, loaded, region_lines, region_length, region_fits, region_cost}
use Rattle.model.specs.declared.Header.{Header}
use Rattle.lineset.specs.Members.{members}
use Rattle.regions.specs.declared.MeasuredRegion.{MeasuredRegion}
use Rattle.regions.specs.declared.CountedRegion.{CountedRegion}
use Rattle.regions.specs.declared.Run.{Run}
use Rattle.regions.specs.declared.Weighed.{Weighed}

-- the region from edge a to edge b; 64 such numbers of lines or costs sum up in 64 bits
pub record Measures (t : Task) (a b : ℕ) (r : MeasuredRegion) : Type 0 where
  pub loaded : (c : ℕ) → members r.loaded c ≡ loaded t a b c
  pub lines : r.lines ≡ region_lines t a b
  pub length : r.length ≡ region_length t a b
  pub cost : r.cost ≡ region_cost t a b
  pub fits : r.fits ≡ region_fits t a b
  pub few : r.lines ≤ 512
  pub small : r.cost < 2 ^ 48

-- the limit that counts for the n basic blocks after edge a: Q, and the smaller of Q and Q2 where the sampler is armed in one of them
abbrev pub limit_after : Task → ℕ → ℕ → ℕ
limit_after t a n = cond (armed_after t a n) (min t.header.limit (second_limit t)) t.header.limit

-- the sum of the times of blocks a + 1 to b, and the limit that counts for them
pub record RunBetween (t : Task) (a b : ℕ) (r : Run) : Type 0 where
  pub time-is : r.time ≡ time_after t a (b - a)
  pub limit_is : r.limit ≡ limit_after t a (b - a)
  pub small : r.time ≤ (b - a) * 4294967295

-- a region's lines, the sum of its times, and the limit that counts for it; no basic blocks are a region that loads nothing
pub record Counted (t : Task) (r : CountedRegion) : Type 0 where
  pub rising : r.from ≤ r.to
  pub within : r.to ≤ block_count t
  pub lines : r.lines ≡ region_lines t r.from r.to
  pub few : r.lines ≤ 512
  pub run : RunBetween t r.from r.to r.run

-- the length, the cost and the fit of a region of whatever task has this header
pub record Weighs (header : Header) (r : CountedRegion) (w : Weighed) : Type 0 where
  pub length : (t : Task) → header ≡ t.header → Counted t r → w.length ≡ region_length t r.from r.to
  pub cost : (t : Task) → header ≡ t.header → Counted t r → w.cost ≡ region_cost t r.from r.to
  pub fits : (t : Task) → header ≡ t.header → Counted t r → w.fits ≡ region_fits t r.from r.to
  pub small : w.cost < 2 ^ 48

-- the length, the cost and the fit of the region from edge a to edge b
abbrev pub WeighsRegion : Task → ℕ → ℕ → Weighed → Type 0
WeighsRegion t a b r = (r.length ≡ region_length t a b) × (r.cost ≡ region_cost t a b) × (r.fits ≡ region_fits t a b) × (r.cost < 2 ^ 48)
