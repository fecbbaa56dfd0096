-- What is left of an accepted and of a refused call. Assumes nothing.
use Rattle.std.specs.Prelude.{Ok, Err, ℕ, List, length}
use mathlib.Core.Path.{◌≡◌, refl}
use Rattle.model.specs.Answers.{Verdict, accept, on_accepted, and_then, output_row, place_of, First, Second, Input}
use Rattle.model.specs.declared.Refusal.{Refusal}
use Rattle.block.specs.Bytes.{les}
use Rattle.std.specs.Prelude.{Option, Some, None, get_or}
use Rattle.std.specs.Option.{option_map}
use Rattle.std.specs.Result.{result_and}
use Rattle.enumerating.specs.declared.FittingList.{FittingList}
use Rattle.listing.specs.Calls.{with_points, points_found, in_array}
use Rattle.probe.specs.Calls.{probed, left, list_numbers, points_in}

-- where the call accepts, the buffer's length decides
pub probed-accept : (size : ℕ) (out : List ℕ) → probed size accept out ≡ output_row size (length out)
unfolding probed
probed-accept size out = go (output_row size (length out))
  where
    go : (v : Verdict) → and_then v accept ≡ v
    go (Ok u) = refl
    go (Err x) = refl

-- a refused call leaves what the buffer held
pub left-refused : (size : ℕ) (x : Refusal) (numbers out : List ℕ) → left size (Err x) numbers out ≡ out
unfolding left probed
left-refused size x numbers out = go (output_row size (length out))
  where
    go : (v : Verdict) → on_accepted (and_then v (Err x)) (les 8 numbers) out ≡ out
    go (Ok u) = refl
    go (Err y) = refl

-- an accepted join has place 0
pub no-place : (input : Input) → place_of input accept ≡ 0
no-place First = refl
no-place Second = refl

-- the first refusal of two, as the code has it
pub first-of : (v w : Verdict) → result_and v w ≡ and_then v w
first-of (Ok u) w = refl
first-of (Err x) w = refl

-- the numbers of the next list are those of what is found
pub next-numbers : (n : ℕ) (o : Option FittingList) (i : ℕ)
    → list_numbers (option_map (λ f. f.list) (option_map (with_points n) o)) (points_in (option_map (with_points n) o)).count (get_or (points_in (option_map (with_points n) o)).points i 0)
    ≡ list_numbers o (length (points_found n o)) (get_or (in_array (points_found n o)) i 0)
next-numbers n None i = refl
next-numbers n (Some l) i = refl
