-- The place of a file's refusal: a block of the file, so at most 97.
-- Assumes nothing.
use Rattle.std.specs.Prelude.{Err}
use Prim.Native.Nat.{ℕ, ◌+◌, ◌%◌, ◌≤◌}
use mathlib.Core.Path.{◌≡◌}
use mathlib.Core.Bool.{Bool, true, false, cond, ◌&&◌, and-eq-true_iff}
use mathlib.Core.List.{List}
use native.Mathlib.Omega.{arith}
use lib.Dec.{eqb, leb, ltb}
use lib.ListN.{length}
use borrow.Author.Tests.{leb-true, eqb-true}
use Rattle.model.specs.Answers.{accept, place, verdict_place}
use Rattle.model.specs.declared.Refusal.{Refusal}
use Rattle.model.specs.declared.Refusal.TheVariants.{Length, Checksum, WrongHeader, BlockCount, WrongBlock}
use Rattle.model.proofs.Places.{then-most, at_most}
use Rattle.model.specs.Lists.{lowest_from}
use Rattle.model.proofs.Lowest.{lowest-within}
use Rattle.taskfile.specs.File.{blocks_in, counts, sum_right, header_right, block_right, length_right, length_row, checksum_row, header_row, count_row, block_row, verdict}
use Rattle.model.proofs.Verdicts.{row-holds}

blocks-most : (file : List ℕ) → length_row file ≡ accept → blocks_in file ≤ 97
unfolding length_row length_right blocks_in
blocks-most file e =
    let right = row-holds _ (length_right (length file)) e in
    omega (arith, leb-true (length file) 49664 ((and-eq-true_iff (ltb 0 (length file) && eqb (length file % 512) 0) (leb (length file) 49664)).0 right).1)

-- a row that refuses at no block
row-most : (b : Bool) (r : Refusal) → place r ≤ 97 → verdict_place (cond b accept (Err r)) ≤ 97
row-most true r h = omega arith
row-most false r h = h

pub verdict-most : (file : List ℕ) → verdict_place (verdict file) ≤ 97
unfolding verdict length_row checksum_row header_row count_row block_row
verdict-most file =
    let total : ℕ = blocks_in file in
    let n : ℕ = (counts file).blocks in
    let m : ℕ = (counts file).preempters in
    then-most (length_row file) _ 97 (row-most (length_right (length file)) Length (omega arith))
    (λ e. then-most (checksum_row file) _ 97
    (at_most (lowest_from (sum_right file) 0 total) Checksum accept 97 (λ k f. omega (arith, blocks-most file e, lowest-within (sum_right file) 0 total k f)) (omega arith))
    (λ s. then-most (header_row file) _ 97 (row-most (header_right file) WrongHeader (omega arith))
    (λ h. then-most (count_row file) (block_row file) 97 (row-most (eqb total (1 + n + m)) BlockCount (omega arith))
    (λ c. at_most (lowest_from (block_right file) 1 (n + m)) WrongBlock accept 97
    (λ k f. omega (arith, blocks-most file e, eqb-true total (1 + n + m) (row-holds _ (eqb total (1 + n + m)) c), lowest-within (block_right file) 1 (n + m) k f)) (omega arith)))))
