-- `enumerating::next_fitting` meets its contract. The loop's invariant: from the number that is
-- reached on the search finds what it finds from its start.
use Prim.Native.Nat.{◌-◌, ◌^◌}
use mathlib.Core.Path.{◌≡◌}
use Rattle.enumerating.specs.Table.{fit_in}
use Rattle.enumerating.proofs.Searching.{Reached}
use Rattle.enumerating.proofs.next_fitting.Given as goal

abbrev pub invariant-loop-number : goal.invariant-loop-number
invariant-loop-number l = (l.end ≡ 2 ^ (l.blocks - 1)) × Reached (fit_in l.table) l.blocks l.start l.number
