-- A file with zeros in bytes 20 to 27 is answered as it was without a scratch range: the range of no numbers is right, and its two numbers are
-- eight zero bytes.
-- Assumes nothing.
use mathlib.Core.Path.{◌≡◌, refl}
use mathlib.Core.Bool.{and-true}
use mathlib.Core.List.{List, ◌∷◌, ◌++◌}
use lib.ListN.{take, drop}
use Prim.Native.Nat.{ℕ}
use Rattle.model.proofs.LineStates.{no-scratch}
use Rattle.block.specs.Bytes.{le, packed, field}
use Rattle.taskfile.specs.File.{header_of, task_of, header_numbers, task_numbers, scratch_in_range, header_in_range, header_right, header_row, verdict}
use Rattle.taskfile.specs.Statements.{verdict_before, ZerosAsBefore}

module _ (file : List ℕ) (first : field file 20 4 ≡ 0) (count : field file 24 4 ≡ 0) where
  none_first : (task_of file).header.scratch.first ≡ 0
  unfolding task_of header_of
  none_first = first

  none-counted : (task_of file).header.scratch.count ≡ 0
  unfolding task_of header_of
  none-counted = count

  named-now : packed (task_numbers (task_of file)) ≡ packed (take 8 (task_numbers (task_of file)) ++ ((8, 0) ∷ drop 10 (task_numbers (task_of file))))
  unfolding packed le header_numbers
  named-now = rw (none_first, none-counted) refl

  verdict-same : verdict file ≡ verdict_before file
  unfolding verdict verdict_before header_row header_right header_in_range scratch_in_range
  verdict-same = rw (named-now, none_first, none-counted, and-true)

pub zeros-as-before : ZerosAsBefore
zeros-as-before file first count = (verdict-same file first count, no-scratch (task_of file) (none-counted file first count))
