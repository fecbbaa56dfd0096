-- The refusals of a call with two inputs: its place in 64 bits, and what the call answers. Assumes nothing.
use Rattle.std.specs.Prelude.{ℕ, min, ◌+◌, ◌-◌, ◌^◌, Ok, Err, Result}
use Rattle.model.specs.Answers.{Verdict, most_blocks}
use Rattle.answers.specs.declared.Refused.{Refused}

-- a place of the second input: after those of the first, and at most the largest number of 64 bits
abbrev pub second_place : ℕ → ℕ
second_place p = min (p + most_blocks) (2 ^ 64 - 1)

-- what a call with two inputs answers: a value where it accepts, or the refusal with its place
abbrev pub placed : {A : Type 0} → Verdict → ℕ → A → Result A Refused
placed (Ok u) i a = Ok a
placed (Err r) i a = Err (record { refusal = r; place = i })
