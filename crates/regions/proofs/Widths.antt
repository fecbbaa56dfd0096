-- The widths of a count of lines and of a cost.
-- Assumes nothing.
use Prim.Native.Nat.{ℕ, ◌*◌, ◌^◌, ◌≤◌, ◌<◌}
use mathlib.Core.Path.{◌≡◌}
use native.Mathlib.Nat.{mul-le-mul}
use native.Mathlib.Omega.{arith}
use Rattle.model.specs.Sets.{size}
use Rattle.model.proofs.Digits.{count-le}
use Rattle.lineset.specs.Members.{members}
use Rattle.lineset.specs.declared.LineSet.{LineSet}

-- a set has at most 512 lines
pub few-lines : (s : LineSet) {lines : ℕ} → lines ≡ size (members s) → lines ≤ 512
few-lines s e = omega (arith, count-le 512 (members s))

-- a reload cost of 32 bits for each of at most n lines
pub cost-le : (n : ℕ) {reload lines : ℕ} → reload < 2 ^ 32 → lines ≤ n → reload * lines ≤ 4294967295 * n
cost-le n h l = mul-le-mul (omega arith) l
