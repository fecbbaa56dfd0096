-- Refusals and what they are to the build: 1 to 9 of document 01, "Numbers given to the build", and
-- 10 to 16 of document 02. 17, for the text of a task, is ours and in no document. Assumes nothing.
use Rattle.std.specs.Prelude.{ℕ, ◌+◌, Bool, true, false, cond, List, eqb, Err, None, Ok, Option, Result, Some}
use Rattle.model.specs.Task.{Task, block_count}
use Rattle.model.specs.Lists.{wrong_point}
use Rattle.model.specs.Regions.{region_above}
use Rattle.model.specs.declared.Refusal.{Refusal}
use Rattle.model.specs.declared.Refusal.TheVariants.{Length, Checksum, WrongHeader, BlockCount, WrongBlock, NoPlacement, Argument, AboveLimit, Output, OutOfRange, Mismatch, TooManyBlocks, WrongTraceLine, WrongTrace, LongTask, WrongTaskSet, WrongText}

-- whether a call accepts what it is handed, or why not
abbrev pub Verdict : Type 0
Verdict = Result (Unit {0}) Refusal

-- nothing to refuse
abbrev pub accept : Verdict
accept = Ok (tt {0})

-- the first column of document 01's table, which document 02 extends: the number
abbrev pub number : Refusal → ℕ
number Length = 1
number (Checksum k) = 2
number WrongHeader = 3
number BlockCount = 4
number (WrongBlock k) = 5
number NoPlacement = 6
number (Argument i) = 7
number (AboveLimit i) = 8
number Output = 9
number OutOfRange = 10
number Mismatch = 11
number TooManyBlocks = 12
number (WrongTraceLine i) = 13
number WrongTrace = 14
number LongTask = 15
number WrongTaskSet = 16
number (WrongText i) = 17

-- the place: the lowest such block, index, region or line, and 0 where the table says so
abbrev pub place : Refusal → ℕ
place Length = 0
place (Checksum k) = k
place WrongHeader = 0
place BlockCount = 0
place (WrongBlock k) = k
place NoPlacement = 0
place (Argument i) = i
place (AboveLimit i) = i
place Output = 0
place OutOfRange = 0
place Mismatch = 0
place TooManyBlocks = 0
place (WrongTraceLine i) = i
place WrongTrace = 0
place LongTask = 0
place WrongTaskSet = 0
place (WrongText i) = i

-- the blocks of the largest file
abbrev pub most_blocks : ℕ
most_blocks = 97

-- a verdict's number: that of its refusal, and 0 where it accepts
abbrev pub verdict_number : Verdict → ℕ
verdict_number (Ok u) = 0
verdict_number (Err r) = number r

-- and its place: that of its refusal, and 0 where it accepts
abbrev pub verdict_place : Verdict → ℕ
verdict_place (Ok u) = 0
verdict_place (Err r) = place r

-- which of a call's two inputs a refusal is of
pub data Input : Type 0 where
  First : Input
  Second : Input

-- the place of a call with two inputs: the places of the second come after those of the first
abbrev pub place_of : Input → Verdict → ℕ
place_of First v = verdict_place v
place_of Second (Ok u) = 0
place_of Second (Err r) = place r + most_blocks

-- refusal 9: a lent output is not of this size
unfoldable pub output_row : ℕ → ℕ → Verdict
output_row size length = cond (eqb length size) accept (Err Output)

abbrev pub accepted : Verdict → Bool
accepted (Ok u) = true
accepted (Err r) = false

-- a value for an accepted input, and another for a refused one
abbrev pub on_accepted : {A : Type 0} → Verdict → A → A → A
on_accepted (Ok u) a b = a
on_accepted (Err r) a b = b

-- what a call answers: a value where it accepts, or the refusal
abbrev pub answered : {A : Type 0} → Verdict → A → Result A Refusal
answered (Ok u) a = Ok a
answered (Err r) a = Err r

-- refused where there is a place, else as the later rows say
abbrev pub refused_at : Option ℕ → (ℕ → Refusal) → Verdict → Verdict
refused_at None r later = later
refused_at (Some i) r later = Err (r i)

-- the first refusal of two that are looked at in this order
abbrev pub and_then : Verdict → Verdict → Verdict
and_then (Ok u) later = later
and_then (Err r) later = Err r

-- whose refusal that is, of two inputs' verdicts: the second's where the first is accepted and the second is not
abbrev pub whose : Verdict → Verdict → Input
whose (Ok u) (Ok v) = First
whose (Ok u) (Err r) = Second
whose (Err r) later = First

-- pricing a list: 7 at the lowest wrong point, then 8 at the lowest region that does not fit
abbrev pub pricing : Task → List ℕ → Verdict
pricing t ps = refused_at (wrong_point (block_count t) ps) Argument (refused_at (region_above t ps) AboveLimit accept)
