-- `taskfile::read_header` meets its contract: each number is read where it stands.
use Rattle.taskfile.specs.File.{header_of}
use Rattle.taskfile.proofs.read_header.Goals as goal

pub returns : goal.returns
unfolding header_of
returns c = cc
