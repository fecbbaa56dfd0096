-- `testload::generate` meets its contract: where both tests accept, the task is drawn.
use Rattle.std.proofs.Common.{refl, arith}
use Rattle.testload.specs.Calls.{generated}
use Rattle.testload.proofs.Files.{rows-accepted, task-put}
use Rattle.testload.proofs.generate.Goals as goal

pub overflow_cast-header : goal.overflow_cast-header
overflow_cast-header c =
    let all = rows-accepted _ c.in_ok-check_counts.ensures c.file_size.ensures c.in_ok-check_output.ensures in omega (arith, all)

pub put_blocks-requires : goal.put_blocks-requires
put_blocks-requires c =
    let all = rows-accepted _ c.in_ok-check_counts.ensures c.file_size.ensures c.in_ok-check_output.ensures in (omega (arith, all), omega (arith, all))

pub put_blocks-requires-2 : goal.put_blocks-requires-2
put_blocks-requires-2 c =
    let all = rows-accepted _ c.in_ok-check_counts.ensures c.file_size.ensures c.in_ok-check_output.ensures in (omega (arith, all), omega (arith, all))

pub overflow_cast-blocks-3 : goal.overflow_cast-blocks-3
overflow_cast-blocks-3 c =
    let all = rows-accepted _ c.in_ok-check_counts.ensures c.file_size.ensures c.in_ok-check_output.ensures in omega (arith, all)

pub overflow_cast-preempters-2 : goal.overflow_cast-preempters-2
overflow_cast-preempters-2 c =
    let all = rows-accepted _ c.in_ok-check_counts.ensures c.file_size.ensures c.in_ok-check_output.ensures in omega (arith, all)

pub close_file-requires : goal.close_file-requires
close_file-requires c =
    let all = rows-accepted _ c.in_ok-check_counts.ensures c.file_size.ensures c.in_ok-check_output.ensures in omega (arith, all)

pub returns : goal.returns
unfolding generated
returns c =
    let args = c.args in
    let all = rows-accepted _ c.in_ok-check_counts.ensures c.file_size.ensures c.in_ok-check_output.ensures in
    let put = task-put args.seed args.blocks args.preempters args.line_count args.limit args.reload c.put_blocks.new.self.state args.out.now
    c.put_blocks.new.out c.put_blocks-2.new.out c.close_file.new.out c.put_blocks.ensures.out_after
    c.put_blocks.ensures.state_after c.put_blocks-2.ensures.out_after c.close_file.ensures in
    rw all.0 record { value = refl; out_after = put }
