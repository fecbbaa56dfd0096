-- `reuse::reread_lines` meets its contract. The loop's invariant: the set is those of the lines below c.
use Prim.Native.Nat.{ℕ}
use mathlib.Core.Path.{◌≡◌}
use mathlib.Core.Bool.{Bool, ◌&&◌}
use mathlib.Core.List.{List}
use lib.Dec.{ltb}
use lib.ListN.{get_or}
use Rattle.model.specs.Lines.{same_block}
use Rattle.model.specs.declared.Line.{Line}
use Rattle.model.specs.declared.Line.TheVariants.{Empty}
use Rattle.lineset.specs.Members.{members}
use Rattle.reuse.proofs.reread_lines.Given as goal

-- the line holds what was read on it first
abbrev pub Same : List Line → List Line → ℕ → Bool
Same held first c = same_block (get_or held c Empty) (get_or first c Empty)

abbrev pub invariant-loop-c : goal.invariant-loop-c
invariant-loop-c l = (d : ℕ) → members l.lines d ≡ (ltb d l.c && Same l.held l.first d)
