-- The first reads of the lines, in one array: what was read on a line first. Assumes nothing.
use Rattle.std.specs.Prelude.{ℕ, ◌≡◌, Bool, true, false, not, ◌&&◌, List, length, get_or}
use Rattle.model.specs.Sets.{Lines}
use Rattle.model.specs.Task.{Task}
use Rattle.model.specs.Lines.{on_line, first_read, any_read}
use Rattle.model.specs.declared.Line.{Line}
use Rattle.model.specs.declared.Line.TheVariants.{Empty, Held}

-- whether something was read
abbrev pub is_read : Line → Bool
is_read Empty = false
is_read (Held m) = true

-- the first of two reads, where either may be none
abbrev pub or_then : Line → Line → Line
or_then Empty later = later
or_then (Held m) later = Held m

-- the array before and after the reads xs, and the lines of these reads that were not read before
pub record Noted (t : Task) (xs : List ℕ) (first₀ : List Line) (first : List Line) (lines : Lines) : Type 0 where
  pub long : length first ≡ 512
  pub first-is : (c : ℕ) → get_or first c Empty ≡ or_then (get_or first₀ c Empty) (first_read (on_line t c) xs)
  pub lines_are : (c : ℕ) → lines c ≡ (not (is_read (get_or first₀ c Empty)) && any_read (on_line t c) xs)
