-- `showing::Page::put_preempters` meets its contract: the preempters that are left are the rest of the text.
use mathlib.Core.Path.{◌≡◌}
use lib.ListN.{drop}
use Rattle.taskfile.specs.File.{task_of}
use Rattle.showing.specs.Text.{preempters_text}
use Rattle.showing.proofs.Laws.{Left}
use Rattle.showing.proofs.Page.put_preempters.Given as goal

abbrev pub invariant-loop-i : goal.invariant-loop-i
invariant-loop-i l = (l.self.out.ghost_name ≡ l.fn.self.out.ghost_name) × Left l.fn.self.out.now l.fn.self.at (preempters_text (task_of l.file).preempters) l.self.out.now l.self.at (preempters_text (drop l.i (task_of l.file).preempters))
