-- The line that a mapping names is below 512; a memory block lies on a line by two tests; and in a
-- file without a scratch range every memory block is cached. Assumes nothing.
use Rattle.std.specs.Prelude.{None, Option, Some}
use Prim.Native.Nat.{ℕ, ◌%◌, ◌<◌}
use mathlib.Core.Path.{◌≡◌, sym, ap, subst, ◌∙◌}
use mathlib.Core.Bool.{Bool, true, false, not, cond, ◌&&◌, and-true, and-false}
use lib.Dec.{eqb}
use borrow.Author.Tests.{eqb-true}
use Rattle.model.specs.Task.{Task, line_count}
use Rattle.model.specs.Lines.{bypasses, line_of, is_line, on_line}
use Rattle.model.proofs.LineStates.{none-bypasses}
use Rattle.cacheline.specs.Geometries.{WithinCache, SlotOf}
use Rattle.cacheline.specs.declared.Slot.{Slot}

pub line-below : (m : Option ℕ) (c : ℕ) → m ≡ Some c → WithinCache m → c < 512
line-below m c e w = subst WithinCache e w

-- the line of its remainder, unless it bypasses the cache
pub both-tests : (t : Task) (c m : ℕ) → on_line t c m ≡ (eqb c (m % line_count t) && not (bypasses t m))
unfolding on_line line_of
both-tests t c m = go (bypasses t m)
  where
    go : (b : Bool) → is_line c (cond b None (Some (m % line_count t))) ≡ (eqb c (m % line_count t) && not b)
    go true = sym (and-false (eqb c (m % line_count t)))
    go false = sym (and-true (eqb c (m % line_count t)))

-- without a scratch range
pub all-cached : (t : Task) (m : ℕ) (s : Slot) → SlotOf t m s → eqb t.header.scratch.count 0 ≡ true → s.cached ≡ true
all-cached t m s of e = of.is-cached ∙ ap not (none-bypasses t (eqb-true t.header.scratch.count 0 e) m)
