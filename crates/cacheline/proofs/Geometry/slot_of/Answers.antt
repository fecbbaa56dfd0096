-- `cacheline::Geometry::slot_of` meets its contract: a memory block lies on the line of its
-- remainder, unless it bypasses the cache.
use Prim.Native.Nat.{ℕ, ◌%◌}
use mathlib.Core.Path.{refl, ap, ◌∙◌}
use mathlib.Core.Bool.{not}
use Rattle.cacheline.proofs.Below.{both-tests}
use Rattle.cacheline.proofs.Geometry.slot_of.Goals as goal

pub returns : goal.returns
returns c =
    let rest = c.remainder.ensures in (
      λ t of.
          let there = rest.0 ∙ ap (λ (s : ℕ). c.args.number % s) of.count in
          record {
            is-cached = ap not (c.bypasses.ensures t of);
            lies = λ d. both-tests t d c.args.number ∙ rw (there, c.bypasses.ensures t of) refl;
          },
      rest.1,
    )
