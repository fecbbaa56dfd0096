-- `showing::show` meets its contract: where nothing is refused, the text is put into the output, which has room for it.
use native.Mathlib.Omega.{arith}
use mathlib.Core.Path.{◌≡◌, refl, sym, ◌∙◌}
use lib.ListN.{length}
use Rattle.std.proofs.lemmas.Result.{err_from_is_err_and}
use Rattle.showing.specs.Calls.{shown_text, show_verdict, show_answer, show_output}
use Rattle.showing.proofs.Laws.{laid-whole}
use Rattle.showing.proofs.Rows.{text-fits}
use Rattle.showing.proofs.show.Goals as goal

pub returns-in_err-check-clause-value : goal.returns-in_err-check-clause-value
unfolding show_verdict show_answer
returns-in_err-check-clause-value c =
    let left = err_from_is_err_and c.from_residual.result c.from_residual.ensures.1 in
    rw (← c.check.ensures, c.in_err-check.was, left.1, left.2)

pub returns-in_err-check-clause-out_after : goal.returns-in_err-check-clause-out_after
unfolding show_verdict show_output
returns-in_err-check-clause-out_after c = rw (← c.check.ensures, c.in_err-check.was) refl

pub returns-clause-value : goal.returns-clause-value
unfolding show_verdict show_answer
returns-clause-value c =
    let size : c.put_text.result ≡ length (shown_text c.args.file.now) = omega (arith, c.put_text.ensures.place) in
    rw (← c.check.ensures, c.in_ok-check.was, size) refl

pub returns-clause-out_after : goal.returns-clause-out_after
unfolding show_verdict show_output
returns-clause-out_after c =
    let file = c.args.file.now in
    let out = c.args.out.now in
    rw (← c.check.ensures, c.in_ok-check.was) (c.put_text.ensures.bytes ∙ laid-whole (shown_text file) out (text-fits file out (sym c.check.ensures ∙ c.in_ok-check.was)))
