-- `probe::probe_next_list` meets its contract: what the listing answers is left, six numbers.
use mathlib.Core.Path.{◌≡◌, sym, ◌∙◌}
use Prim.Native.Nat.{◌*◌}
use native.Mathlib.Omega.{arith}
use lib.ListN.{length, get_or}
use Rattle.std.specs.Prelude.{Err}
use Rattle.model.specs.Answers.{accept}
use Rattle.model.specs.Task.{block_count}
use Rattle.model.proofs.Verdicts.{answered-ok, answered-err}
use Rattle.taskfile.specs.File.{task_of}
use Rattle.listing.specs.Calls.{list_verdict, next_of, next_points, next_answer, in_array}
use Rattle.probe.specs.Calls.{list_numbers}
use Rattle.probe.proofs.Left.{left-refused, next-numbers}
use Rattle.probe.proofs.probe_next_list.Goals as goal
use Rattle.probe.proofs.probe_next_list.Goals.{In-Ok, In-Err, After-list_numbers}

accepted : (c : goal.In-Ok) → list_verdict c.args.file.now ≡ accept
unfolding next_answer
accepted c = (answered-ok _ _ _ (sym c.next_list.ensures ∙ c.in-Ok.is)).0

refused : (c : goal.In-Err) → list_verdict c.args.file.now ≡ Err c.in-Err.refusal
unfolding next_answer
refused c = answered-err _ _ _ (sym c.next_list.ensures ∙ c.in-Err.is)

numbers : (c : goal.After-list_numbers) → c.list_numbers.result
    ≡ list_numbers (next_of c.args.file.now c.args.start) (length (next_points c.args.file.now c.args.start)) (get_or (in_array (next_points c.args.file.now c.args.start)) c.args.i 0)
unfolding next_answer
numbers c =
    let found = (answered-ok _ _ _ (sym c.next_list.ensures ∙ c.in-Ok.is)).1 in
    c.list_numbers.ensures ∙ rw (← found) (next-numbers (block_count (task_of c.args.file.now)) (next_of c.args.file.now c.args.start) c.args.i)

size : (c : goal.After-list_numbers) → 8 * length c.list_numbers.result ≡ 48
size c = omega arith

pub returns-in-Ok-clause-value : goal.returns-in-Ok-clause-value
returns-in-Ok-clause-value c =
    let here = (goal.at.returns-in-Ok-clause-value c) in
    rw (accepted here.In-Ok) (rw (size here.After-list_numbers) at c.leave.ensures.value)

pub returns-in-Ok-clause-place_after : goal.returns-in-Ok-clause-place_after
returns-in-Ok-clause-place_after c =
    let here = (goal.at.returns-in-Ok-clause-place_after c) in
    rw (accepted here.In-Ok) (rw (size here.After-list_numbers) at c.leave.ensures.place_after)

pub returns-in-Ok-clause-out_after : goal.returns-in-Ok-clause-out_after
returns-in-Ok-clause-out_after c =
    let here = (goal.at.returns-in-Ok-clause-out_after c) in
    rw (accepted here.In-Ok, ← numbers here.After-list_numbers) (rw (size here.After-list_numbers) at c.leave.ensures.out_after)

pub returns-in-Err-clause-value : goal.returns-in-Err-clause-value
returns-in-Err-clause-value c = rw (refused (goal.at.returns-in-Err-clause-value c).In-Err) c.refuse.ensures.value

pub returns-in-Err-clause-place_after : goal.returns-in-Err-clause-place_after
returns-in-Err-clause-place_after c = rw (refused (goal.at.returns-in-Err-clause-place_after c).In-Err) c.refuse.ensures.place_after

pub returns-in-Err-clause-out_after : goal.returns-in-Err-clause-out_after
returns-in-Err-clause-out_after c = rw (refused (goal.at.returns-in-Err-clause-out_after c).In-Err, left-refused)
