-- What storing a read and an entry leaves.
-- Assumes nothing.
use Prim.Native.Nat.{ℕ, zero, suc, ◌+◌, ◌*◌, ◌^◌, ◌<◌, ◌≤◌}
use mathlib.Core.Path.{◌≡◌, refl, ap, ap₂, ◌∙◌}
use mathlib.Core.List.{List, [], ◌∷◌, ◌++◌, append_assoc}
use native.Mathlib.Nat.{add-zero, mul-zero, mul-suc}
use native.Mathlib.Omega.{arith}
use lib.ListN.{length, take, drop}
use lib.Seq.{take_at, length-take-le}
use Rattle.block.specs.Bytes.{AllBytes, le, packed, field, fields}
use Rattle.block.specs.Blocks.{numbered}
use Rattle.block.proofs.Bytes.{length_fields, les-fields, field-le, field-take}
use Rattle.block.proofs.Storing.{stored-none, stored-first, stored-kept, stored-number}
use Rattle.taskfile.specs.File.{entry_bytes}
use Rattle.writer.specs.Writing.{stored_reads}

fields_snoc : (bs : List ℕ) (at w n : ℕ) → fields bs at w (suc n) ≡ fields bs at w n ++ (field bs (at + w * n) w ∷ [])
unfolding fields
fields_snoc bs at w zero = rw (mul-zero, add-zero)
fields_snoc bs at w (suc n) =
    let next : at + w + w * n ≡ at + w * suc n = omega (arith, mul-suc w n) in
    ap (λ (r : List ℕ). field bs at w ∷ r) (rw (← next) (fields_snoc bs (at + w) w n))

fields-take : (bs : List ℕ) (m at w n : ℕ) → at + w * n ≤ m → fields (take m bs) at w n ≡ fields bs at w n
unfolding fields
fields-take bs m at w zero h = refl
fields-take bs m at w (suc n) h =
    ap₂ ◌∷◌ (field-take bs m at w (omega (arith, mul-suc w n))) (fields-take bs m (at + w) w n (omega (arith, mul-suc w n)))

-- what `put_read` stores
pub read-stored : (bs new : List ℕ) (j m : ℕ) → length bs ≡ 512 → j < 124 → m < 2 ^ 32
    → new ≡ take (8 + 4 * j) bs ++ le 4 m ++ drop (8 + 4 * j + 4) bs → stored_reads new (suc j) ≡ stored_reads bs j ++ (m ∷ [])
read-stored bs new j m l h f p =
    let before : List ℕ = take (8 + 4 * j) bs in
    let after : List ℕ = drop (8 + 4 * j + 4) bs in
    let long : length before ≡ 8 + 4 * j = length-take-le (8 + 4 * j) bs (omega arith) in
    let same : take (8 + 4 * j) new ≡ before = rw (p, append_assoc) (take_at before (le 4 m ++ after) (8 + 4 * j) long) in
    let first : fields new 8 4 j ≡ fields bs 8 4 j =
    rw (← fields-take new (8 + 4 * j) 8 4 j (omega arith), same) (fields-take bs (8 + 4 * j) 8 4 j (omega arith)) in
    let last : field new (8 + 4 * j) 4 ≡ m = rw p (field-le before after (8 + 4 * j) 4 m long f) in
    fields_snoc new 8 4 j ∙ rw (first, last)

-- what `close_entry` stores
pub entry-stored : (bs b₁ b₂ b₃ b₄ new : List ℕ) (number kind byte1 x n : ℕ) → AllBytes bs → length bs ≡ 512 → n ≤ 124
    → b₁ ≡ [] ++ le 1 kind ++ drop 1 bs → b₂ ≡ take 1 b₁ ++ le 1 byte1 ++ drop 2 b₁ → b₃ ≡ take 2 b₂ ++ le 2 n ++ drop 4 b₂
    → b₄ ≡ take 4 b₃ ++ le 4 x ++ drop 8 b₃ → take 508 new ≡ numbered number (take (8 + 4 * n) b₄)
    → take 508 new ≡ numbered number (entry_bytes kind byte1 x (stored_reads bs n))
unfolding entry_bytes packed le
entry-stored bs b₁ b₂ b₃ b₄ new number kind byte1 x n b l h p₁ p₂ p₃ p₄ p₅ =
    let s₁ = stored-number 1 kind (stored-none 0 bs (omega arith)) p₁ in
    let s₂ = stored-number 1 byte1 s₁ p₂ in
    let s₃ = stored-number 2 n s₂ p₃ in
    let s₄ = stored-number 4 x s₃ p₄ in
    let s₅ = stored-kept (4 * n) (omega arith) s₄ in
    p₅ ∙ ap (numbered number) (stored-first s₅ ∙ rw (length_fields, les-fields bs 8 4 n b (omega arith)))
