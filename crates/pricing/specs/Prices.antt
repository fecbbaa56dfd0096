-- What pricing answers of a task t. Assumes nothing.
use Rattle.std.specs.Prelude.{ℕ, ◌≤◌, ◌<◌, ◌≡◌, List, ◌∷◌, length, get_or, Result}
use Rattle.model.specs.Task.{Task, block_count}
use Rattle.model.specs.Regions.{region_lines, lines, cost}
use Rattle.model.specs.Charges.{charges}
use Rattle.model.specs.Answers.{pricing, answered}
use Rattle.model.specs.declared.Refusal.{Refusal}
use Rattle.pricing.specs.declared.Price.{Price}
use Rattle.pricing.specs.declared.ChargedPrice.{ChargedPrice}

-- the price of the list of points ps, or its refusal
abbrev pub price_of : Task → List ℕ → Result Price Refusal
price_of t ps = answered (pricing t ps) (record { lines = lines t ps; cost = cost t ps })

-- and the charges of the preempters with it
abbrev pub charged_price_of : Task → List ℕ → Result ChargedPrice Refusal
charged_price_of t ps = answered (pricing t ps) (record { lines = lines t ps; cost = cost t ps; charges = charges t ps })

-- at i stands how many lines region i of the list ps loads: from the point before it, 0 before the first, to its own point, N after the last
pub record Loads (t : Task) (ps counts : List ℕ) : Type 0 where
  pub long : length counts ≡ 64
  pub loads : (i : ℕ) → i ≤ length ps → get_or counts i 0 ≡ region_lines t (get_or (0 ∷ ps) i (block_count t)) (get_or ps i (block_count t))

-- the entries past the regions of the list ps stay as they were
abbrev pub RestStays : (ps before after : List ℕ) → Type 0
RestStays ps before after = (i : ℕ) → length ps < i → get_or after i 0 ≡ get_or before i 0
