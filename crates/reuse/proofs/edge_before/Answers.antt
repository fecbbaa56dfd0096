-- `reuse::edge_before` meets its contract: block 0 is none.
use Prim.Native.Nat.{ℕ, zero, suc, ◌-◌}
use mathlib.Core.Path.{◌≡◌, refl}
use native.Mathlib.Omega.{arith}
use Rattle.reuse.specs.States.{edge_before}
use Rattle.reuse.proofs.edge_before.Goals as goal

some_block : (n b : ℕ) → (b ≡ 0 → ⊥) → b - 1 ≡ edge_before n b
unfolding edge_before
some_block n zero h = absurd (h refl)
some_block n (suc i) h = omega arith

pub returns-then-reader-eq0 : goal.returns-then-reader-eq0
unfolding edge_before
returns-then-reader-eq0 c = rw c.if-reader-eq0.true refl

pub returns-else-reader-eq0 : goal.returns-else-reader-eq0
returns-else-reader-eq0 c = some_block c.args.blocks c.args.reader c.if-reader-eq0.false
