-- `showing::Page::put_blocks` meets its contract: the blocks that are left are the rest of the text.
use mathlib.Core.Path.{◌≡◌}
use lib.ListN.{drop}
use Rattle.taskfile.specs.File.{task_of}
use Rattle.showing.specs.Text.{blocks_text}
use Rattle.showing.proofs.Laws.{Left}
use Rattle.showing.proofs.Page.put_blocks.Given as goal

abbrev pub invariant-loop-i : goal.invariant-loop-i
invariant-loop-i l = (l.self.out.ghost_name ≡ l.fn.self.out.ghost_name) × Left l.fn.self.out.now l.fn.self.at (blocks_text (task_of l.file).blocks) l.self.out.now l.self.at (blocks_text (drop l.i (task_of l.file).blocks))
