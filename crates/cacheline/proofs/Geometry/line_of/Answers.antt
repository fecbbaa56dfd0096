-- `cacheline::Geometry::line_of` meets its contract: no line in the scratch range, and else the remainder.
use Rattle.std.specs.Prelude.{Some}
use Prim.Native.Nat.{ℕ, ◌%◌}
use mathlib.Core.Path.{refl, sym, ap, ◌∙◌}
use Rattle.model.specs.Lines.{line_of}
use Rattle.cacheline.proofs.Geometry.line_of.Goals as goal

pub returns-then-bypasses : goal.returns-then-bypasses
unfolding line_of
returns-then-bypasses c = (λ t of. rw (sym (c.bypasses.ensures t of) ∙ c.if-bypasses.true) refl, tt)

pub returns-else-bypasses : goal.returns-else-bypasses
unfolding line_of
returns-else-bypasses c = (
  λ t of.
      rw (sym (c.bypasses.ensures t of) ∙ c.if-bypasses.false)
      (ap Some (c.remainder.ensures.0 ∙ ap (λ (s : ℕ). c.args.number % s) of.count)),
  c.remainder.ensures.1,
)
