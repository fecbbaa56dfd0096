-- Laws of reading: points read one after another, and the bytes of a plan that was read.
-- Assumes nothing.
use Prim.Native.Nat.{ℕ, zero, suc, ◌+◌, ◌-◌, ◌*◌, ◌<◌, ◌≤◌}
use mathlib.Core.Path.{◌≡◌, ap, ◌∙◌}
use mathlib.Core.List.{List, [], ◌∷◌, ◌++◌}
use native.Mathlib.Nat.{mul-suc, mul-zero, add-zero}
use native.Mathlib.Omega.{arith}
use lib.ListN.{length, take, set, replicate}
use lib.Seq.{take_at, set_at, append_snoc}
use Rattle.block.specs.Bytes.{AllBytes, field, fields}
use Rattle.block.specs.Blocks.{framed}
use Rattle.block.proofs.Bytes.{length_fields, les-fields}
use Rattle.block.proofs.Packing.{total, unpacked}
use Rattle.block.proofs.Blocks.{framed-read}
use Rattle.planblock.specs.Plans.{plan_numbers, plan_named, plan_of}

fields_snoc : (bs : List ℕ) (from w n : ℕ) → fields bs from w (suc n) ≡ fields bs from w n ++ (field bs (from + w * n) w ∷ [])
unfolding fields
fields_snoc bs from w zero = rw (mul-zero, add-zero)
fields_snoc bs from w (suc n) =
    let e : from + w + w * n ≡ from + w * suc n = omega (arith, mul-suc w n) in
    ap (λ (r : List ℕ). field bs from w ∷ r) (fields_snoc bs (from + w) w n ∙ rw e)

-- one point more is read
pub point-read : (bs points : List ℕ) (i : ℕ) → i < 64 → points ≡ fields bs 20 2 i ++ replicate (64 - i) 0
    → set points i (field bs (20 + 2 * i) 2) ≡ fields bs 20 2 (suc i) ++ replicate (64 - suc i) 0
point-read bs points i h e =
    let s : 64 - i ≡ suc (64 - suc i) = omega arith in
    rw (e, s, set_at (fields bs 20 2 i) 0 (replicate (64 - suc i) 0) (field bs (20 + 2 * i) 2) i (length_fields bs 20 2 i), fields_snoc, append_snoc)

-- the named bytes of a plan that was read are those of the block, but for the kind and byte 1
pub named-read : (bs : List ℕ) → AllBytes bs → length bs ≡ 512 → field bs 4 2 ≤ 63
    → plan_named (plan_of bs) ≡ framed 4 0 (20 + 2 * field bs 4 2) bs
unfolding plan_named plan_numbers plan_of unpacked total
named-read bs b l h =
    let c : ℕ = field bs 4 2 in
    let points : take c (fields bs 20 2 c ++ replicate (64 - c) 0) ≡ fields bs 20 2 c = take_at (fields bs 20 2 c) _ c (length_fields bs 20 2 c) in
    rw (points, les-fields bs 20 2 c b (omega arith)) (framed-read 4 0 (2 * c) (2 ∷ 2 ∷ 2 ∷ 8 ∷ 4 ∷ []) bs b (omega arith))
