-- `tracing::Scan::write` meets its contract: the refusals in order, and where nothing is refused, the file.
use mathlib.Core.Path.{◌≡◌, ap, ◌∙◌}
use Prim.Native.Nat.{ℕ}
use mathlib.Core.List.{◌++◌}
use lib.ListN.{drop}
use Rattle.std.proofs.lemmas.Result.{err_from_is_err_and}
use Rattle.model.specs.Answers.{accept}
use Rattle.taskfile.specs.File.{file_of}
use Rattle.tracing.specs.Traces.{traced_task}
use Rattle.tracing.specs.Scans.{scan_place}
use Rattle.tracing.specs.Calls.{verdict_of, answer_of, output_of, made_answer, made_output}
use Rattle.tracing.proofs.Rows.{accepted-rows}
use Rattle.tracing.proofs.Scan.write.Goals as goal
use Rattle.tracing.proofs.Scan.write.Goals.{In_ok-check}

pub returns-in_err-check_output-clause-value : goal.returns-in_err-check_output-clause-value
unfolding made_answer answer_of verdict_of
returns-in_err-check_output-clause-value c =
    let left = err_from_is_err_and c.from_residual.result c.from_residual.ensures.1 in
    rw (← c.check_output.ensures, c.in_err-check_output.was, left.1, left.2)

pub returns-in_err-check_output-clause-out_after : goal.returns-in_err-check_output-clause-out_after
unfolding made_output output_of verdict_of
returns-in_err-check_output-clause-out_after c = rw (← c.check_output.ensures, c.in_err-check_output.was)

pub returns-in_err-check-clause-value : goal.returns-in_err-check-clause-value
unfolding made_answer answer_of verdict_of
returns-in_err-check-clause-value c =
    let left = err_from_is_err_and c.from_residual-in_err-check.result c.from_residual-in_err-check.ensures.1 in
    rw (← c.check_output.ensures, c.in_ok-check_output.was, ← c.check.ensures, c.in_err-check.was, left.1, left.2)

pub returns-in_err-check-clause-out_after : goal.returns-in_err-check-clause-out_after
unfolding made_output output_of verdict_of
returns-in_err-check-clause-out_after c = rw (← c.check_output.ensures, c.in_ok-check_output.was, ← c.check.ensures, c.in_err-check.was)

-- nothing is refused
accepts : (c : goal.In_ok-check) → let args = c.args in
    verdict_of args.settings (scan_place args.self) args.addresses.now args.out.now ≡ accept
unfolding verdict_of
accepts c = rw (← c.check_output.ensures, c.in_ok-check_output.was, ← c.check.ensures, c.in_ok-check.was)

pub put_file-requires : goal.put_file-requires
put_file-requires c =
    let rows = accepted-rows _ _ _ _ (accepts (goal.at.put_file-requires c).In_ok-check) in
    (rows.traceable, rows.size)

pub returns-clause-value : goal.returns-clause-value
unfolding made_answer answer_of
returns-clause-value c = rw (accepts (goal.at.returns-clause-value c).In_ok-check, c.put_file.ensures.value)

pub returns-clause-out_after : goal.returns-clause-out_after
unfolding made_output output_of
returns-clause-out_after c =
    let file = file_of (traced_task c.args.settings c.args.addresses.now) in
    rw (accepts (goal.at.returns-clause-out_after c).In_ok-check)
    (c.put_file.ensures.out_after ∙ ap (λ (n : ℕ). file ++ drop n c.args.out.now) c.put_file.ensures.value)
