-- `tracing::put_task` meets its contract: the blocks are stored, and the file is closed.
use native.Mathlib.Omega.{arith}
use Rattle.tracing.proofs.Groups.{known}
use Rattle.tracing.proofs.Files.{traced-closed}
use Rattle.tracing.proofs.put_task.Goals as goal

pub overflow_cast-header : goal.overflow_cast-header
overflow_cast-header c = let k = known _ _ c.requires.traceable.0 in omega arith

pub put_blocks-requires : goal.put_blocks-requires
put_blocks-requires c = c.requires

pub overflow_cast-blocks : goal.overflow_cast-blocks
overflow_cast-blocks c = let k = known _ _ c.requires.traceable.0 in omega arith

pub returns : goal.returns
returns c =
    let args = c.args in
    traced-closed args.settings args.addresses.now args.blocks args.out.now c.put_blocks.new.out
    c.close_file.new.out c.requires.traceable.1
    c.put_blocks.ensures c.close_file.ensures
