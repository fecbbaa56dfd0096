-- `cacheline::Geometry::bypasses` meets its contract: nothing is in an empty range, and else a number is so far behind the first, where the first is not above it, and otherwise no nearer than the
-- end.
use Prim.Native.Nat.{◌+◌, ◌-◌, ◌%◌}
use mathlib.Core.Path.{sym, ◌∙◌}
use native.Mathlib.Omega.{arith}
use borrow.Author.Tests.{le-ltb}
use Rattle.model.specs.Lines.{bypasses}
use Rattle.cacheline.proofs.Ranges.{behind-first}
use Rattle.cacheline.proofs.Geometry.bypasses.Goals as goal

pub returns-then-self-eq0 : goal.returns-then-self-eq0
unfolding bypasses
returns-then-self-eq0 c =
    let args = c.args in
    λ t of.
    rw (← of.first, ← of.bypassing)
    (sym (le-ltb ((args.number + (4294967296 - args.self.first)) % 4294967296) args.self.bypassing (omega arith)) ∙
    behind-first args.self.first args.self.bypassing args.number of.ends c.ranges.number.fits)

pub returns : goal.returns
unfolding bypasses
returns c =
    λ t of. rw (← of.first, ← of.bypassing) (behind-first c.args.self.first c.args.self.bypassing c.args.number of.ends c.ranges.number.fits)
