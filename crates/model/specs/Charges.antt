-- Which preempter a reload is charged to (document 02, item 10). Preempters are counted from 0, in file order. Assumes nothing.
use Rattle.std.specs.Prelude.{ℕ, ◌+◌, Bool, false, not, ◌&&◌, List, [], ◌∷◌, eqb, get_or, replicate, None, Option, Some}
use Rattle.model.specs.Sets.{Lines, size, table}
use Rattle.model.specs.Task.{Task, block_count, preempter_count, no_preempter}
use Rattle.model.specs.Lines.{on_line, any_read}
use Rattle.model.specs.Lists.{regions, total, lowest_from}
use Rattle.model.specs.Regions.{loaded}

-- preempter i touches line c: one of its numbers lies there; a number of the scratch range lies nowhere
unfoldable pub touches : Task → ℕ → Lines
touches t i c = any_read (on_line t c) (get_or t.preempters i no_preempter).reads

-- the first preempter that touches line c: the lowest index, or none
unfoldable pub first_touching : Task → ℕ → Option ℕ
first_touching t c = lowest_from (λ i. not (touches t i c)) 0 (preempter_count t)

-- a place is this index
abbrev pub is_at : ℕ → Option ℕ → Bool
is_at i None = false
is_at i (Some k) = eqb i k

-- the lines that are charged to preempter i, where they are loaded
unfoldable pub charged_to : Task → ℕ → Lines
charged_to t i c = is_at i (first_touching t c)

-- the charge of preempter i for a region
unfoldable pub region_charge : Task → ℕ → ℕ → ℕ → ℕ
region_charge t i a b = size (λ c. loaded t a b c && charged_to t i c)

-- and for a list of points: a line is charged once for each region that loads it
unfoldable pub charge : Task → List ℕ → ℕ → ℕ
charge t ps i = total (region_charge t i) (regions (block_count t) 0 ps)

-- the charges that are handed out: 32, whatever M is
unfoldable pub charges : Task → List ℕ → List ℕ
charges t ps = table 32 (charge t ps)

-- those where a call refuses; no call hands them out
abbrev pub no_charges : List ℕ
no_charges = replicate 32 0

-- what charges add up to
unfoldable pub sum : List ℕ → ℕ
sum [] = 0
sum (x ∷ xs) = x + sum xs
