-- `pricing::charge_lines` meets its contract. Both loops keep what the lines hold and since when, the regions counted, and the charges.
use Prim.Native.Nat.{suc, ◌+◌}
use mathlib.Core.Path.{◌≡◌}
use Rattle.model.specs.Lines.{evicted}
use Rattle.model.proofs.Loads.{loaded_by}
use Rattle.model.proofs.ReadOrder.{edge}
use Rattle.taskfile.specs.File.{task_of}
use Rattle.pricing.proofs.Pricing.{start_of}
use Rattle.pricing.proofs.Walk.{Known}
use Rattle.pricing.proofs.Walk.{AtEdge}
use Rattle.pricing.proofs.Charging.{Charged}
use Rattle.pricing.proofs.charge_lines.Given as goal

abbrev pub invariant-loop-j : goal.invariant-loop-j
invariant-loop-j l =
    Known (task_of l.file) (edge (task_of l.file) l.i + l.j) (suc l.i) l.region (start_of (task_of l.file) l.points l.region) l.held l.since ×
    (l.count ≡ loaded_by (task_of l.file) (evicted (task_of l.file)) (start_of (task_of l.file) l.points l.region) (edge (task_of l.file) l.i + l.j)) ×
    Charged (task_of l.file) l.points l.region (edge (task_of l.file) l.i + l.j) l.charges

abbrev pub invariant-loop-i : goal.invariant-loop-i
invariant-loop-i l =
    Known (task_of l.file) (edge (task_of l.file) l.i) l.i l.region (start_of (task_of l.file) l.points l.region) l.held l.since ×
    AtEdge (task_of l.file) l.points l.initial.lines l.i l.region l.count l.lines × Charged (task_of l.file) l.points l.region (edge (task_of l.file) l.i) l.charges
