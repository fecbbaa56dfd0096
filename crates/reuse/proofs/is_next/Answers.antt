-- `reuse::is_next` meets its contract: the next read is of the number, or there is none.
use mathlib.Core.Path.{ap, ◌∙◌}
use lib.Dec.{eqb}
use Rattle.std.specs.Option.{option_eq}
use Rattle.std.specs.Prelude.{Some}
use Rattle.model.specs.Lines.{next_read}
use Rattle.taskfile.specs.File.{task_of}
use Rattle.reuse.proofs.Looked.{next-same}
use Rattle.reuse.proofs.is_next.Goals as goal

pub returns : goal.returns
returns c =
    c.eq.ensures ∙ ap (λ n. option_eq eqb n (Some c.args.number)) c.search_from.ensures.next_value ∙
    next-same c.args.number (next_read (task_of c.args.file.now) c.args.k c.args.c)
