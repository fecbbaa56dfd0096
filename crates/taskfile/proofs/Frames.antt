-- The check of a block, part by part: the numbers that are read from bytes are those bytes again, so that the frame is left to test.
-- Assumes nothing.
use Prim.Native.Nat.{ℕ, zero, suc, ◌+◌, ◌-◌, ◌*◌, ◌<◌, ◌≤◌}
use mathlib.Core.Path.{◌≡◌, refl, sym, subst, ap₂, ◌∙◌}
use mathlib.Core.Bool.{Bool, true, ◌&&◌, and-eq-true_iff}
use mathlib.Core.List.{List, [], ◌∷◌, map, append-nil}
use native.Mathlib.Nat.{add-zero}
use native.Mathlib.Omega.{arith}
use lib.ListN.{length, drop}
use Rattle.model.specs.Task.{Task}
use Rattle.block.specs.Bytes.{AllBytes, packed, field}
use Rattle.model.specs.Lists.{lowest_from}
use Rattle.block.specs.Blocks.{framed}
use Rattle.block.proofs.Bytes.{length_part, length_fields, les-fields, part-take}
use Rattle.block.proofs.Packing.{total, unpacked}
use Rattle.model.proofs.Lowest.{scan-next}
use Rattle.block.proofs.Blocks.{framed-read}
use Rattle.taskfile.specs.File.{header_numbers, task_numbers, entry_bytes, reads_in, block_in, counts, header_of, task_of}
use Rattle.taskfile.proofs.Accepted.{block-count, preempter-count}

pub length-in : (file : List ℕ) (k : ℕ) → k * 512 + 512 ≤ length file → length (block_in file k) ≡ 512
unfolding block_in
length-in file k h = length_part (512 * k) 512 file (omega arith)

-- where the header's named bytes end
abbrev pub header_end : Task → ℕ
header_end t = total (map (λ s. s.0) (task_numbers t))

-- the header's numbers are what stands in the header after its kind and byte 1
pub header-bytes : (file : List ℕ) → AllBytes file → 512 ≤ length file
    → packed (task_numbers (task_of file)) ≡ framed 1 0 (header_end (task_of file)) (block_in file 0)
unfolding header_numbers header_of task_of counts unpacked total framed block_in
header-bytes file b h =
    let ws : List ℕ = map (λ s. s.0) (drop 2 (task_numbers (task_of file))) in
    rw (block-count file, preempter-count file, part-take 2 (total ws) 512 file (omega arith))
    (sym (append-nil _) ∙ framed-read 1 0 0 ws file b (omega arith))

pub entry-bytes : (bs : List ℕ) → AllBytes bs → length bs ≡ 512 → (kind byte1 n : ℕ) → n ≡ field bs 2 2 → n ≤ 124
    → entry_bytes kind byte1 (field bs 4 4) (reads_in bs) ≡ framed kind byte1 (8 + 4 * n) bs
unfolding entry_bytes reads_in unpacked total
entry-bytes bs b l kind byte1 n e h =
    rw (length_fields, ← e, les-fields bs 8 4 n b (omega arith))
    (rw (← e) at (framed-read kind byte1 (4 * n) (2 ∷ 4 ∷ []) bs b (omega arith)))

-- the first k are right: on to those behind them
scan-past : (f : ℕ → Bool) (k a b n m : ℕ) → b ≡ a + k → n ≡ k + m → ((i : ℕ) → i < k → f (a + i) ≡ true) → lowest_from f a n ≡ lowest_from f b m
scan-past f zero a b n m s l right = ap₂ (lowest_from f) (omega arith) (omega arith)
scan-past f (suc k) a b n m s l right =
    scan-next f a (a + 1) n (omega arith) refl (rw add-zero at (right 0 (omega arith))) ∙
    scan-past f k (a + 1) b (n - 1) m (omega arith) (omega arith) (λ i h. subst (λ (j : ℕ). f j ≡ true) (omega arith) (right (suc i) (omega arith)))

each-of-four : (f : ℕ → Bool) (a : ℕ) → f a ≡ true → f (a + 1) ≡ true → f (a + 2) ≡ true → f (a + 3) ≡ true → (i : ℕ) → i < 4 → f (a + i) ≡ true
each-of-four f a one two three four zero h = rw add-zero one
each-of-four f a one two three four (suc zero) h = two
each-of-four f a one two three four (suc (suc zero)) h = three
each-of-four f a one two three four (suc (suc (suc zero))) h = four
each-of-four f a one two three four (suc (suc (suc (suc i)))) h = absurd (omega arith)

-- four are right: on to any of them, or to the fifth
pub scan-four : (f : ℕ → Bool) (a b n m : ℕ) → a ≤ b → b ≤ a + 4 → b + m ≡ a + n → (f a && f (a + 1) && f (a + 2) && f (a + 3)) ≡ true → lowest_from f a n ≡ lowest_from f b m
scan-four f a b n m low high end e =
    let fourth = (and-eq-true_iff (f a && f (a + 1) && f (a + 2)) (f (a + 3))).0 e in
    let third = (and-eq-true_iff (f a && f (a + 1)) (f (a + 2))).0 fourth.0 in
    let second = (and-eq-true_iff (f a) (f (a + 1))).0 third.0 in
    scan-past f (b - a) a b n m (omega arith) (omega arith) (λ i h. each-of-four f a second.0 second.1 third.1 fourth.1 i (omega arith))
