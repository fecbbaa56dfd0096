-- `writer::close_preempter` meets its contract: the entry is of its kind.
use Rattle.taskfile.specs.File.{preempter_bytes}
use Rattle.writer.proofs.close_preempter.Goals as goal

pub returns : goal.returns
unfolding preempter_bytes
returns c = c.close_entry.ensures
