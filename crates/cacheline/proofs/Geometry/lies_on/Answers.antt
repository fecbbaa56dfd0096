-- `cacheline::Geometry::lies_on` meets its contract: a memory block lies on the line of its remainder, unless it bypasses the cache.
use Prim.Native.Nat.{ℕ, ◌%◌}
use mathlib.Core.Path.{refl, sym, ap, ◌∙◌}
use borrow.Author.Tests.{eq-eqb, ne_eqb}
use Rattle.cacheline.proofs.Below.{both-tests}
use Rattle.cacheline.proofs.Geometry.lies_on.Goals as goal

pub returns-then-c-remainder : goal.returns-then-c-remainder
returns-then-c-remainder c =
    λ t of.
    let there = c.remainder.ensures.0 ∙ ap (λ (s : ℕ). c.args.number % s) of.count in
    rw (both-tests t c.args.c c.args.number, eq-eqb _ _ (c.if-c-remainder.true ∙ there), c.bypasses.ensures t of) refl

pub returns-else-c-remainder : goal.returns-else-c-remainder
returns-else-c-remainder c =
    λ t of.
    let there = c.remainder.ensures.0 ∙ ap (λ (s : ℕ). c.args.number % s) of.count in
    rw (both-tests t c.args.c c.args.number, ne_eqb _ _ c.if-c-remainder.false, ne_eqb _ _ (λ e. c.if-c-remainder.false (e ∙ sym there))) refl
