-- `assembling::assemble` meets its contract: the output, the text, and then the file of its task.
use native.Mathlib.Omega.{arith}
use mathlib.Core.Path.{◌≡◌, refl, sym, ◌∙◌}
use Prim.Native.Nat.{ℕ}
use lib.ListN.{length}
use Rattle.std.proofs.Common.{Option, None, Some}
use Rattle.model.specs.Answers.{accept, refused_at}
use Rattle.model.specs.declared.Refusal.TheVariants.{WrongText}
use Rattle.std.proofs.lemmas.Result.{err_from_is_err_and}
use Rattle.model.proofs.Verdicts.{never_both, output-size}
use Rattle.assembling.specs.Drafts.{wrong_in, draft_in}
use Rattle.assembling.proofs.Limits.{text-drafted}
use Rattle.assembling.proofs.Closing.{header-lines, assemble-refused, assemble-accepted, output-refused, text-refused, text-accepted}
use Rattle.assembling.proofs.assemble.Goals as goal
use Rattle.assembling.proofs.assemble.Goals.{In_ok-known}

pub returns-in_err-check_output-clause-value : goal.returns-in_err-check_output-clause-value
returns-in_err-check_output-clause-value c =
    let left = err_from_is_err_and c.from_residual.result c.from_residual.ensures.1 in
    let checked = sym c.check_output.ensures ∙ c.in_err-check_output.was in
    rw (left.1, left.2) (sym (assemble-refused _ _ _ (output-refused c.args.text.now _ _ checked)).0)

pub returns-in_err-check_output-clause-out_after : goal.returns-in_err-check_output-clause-out_after
returns-in_err-check_output-clause-out_after c =
    let checked = sym c.check_output.ensures ∙ c.in_err-check_output.was in
    sym (assemble-refused _ _ _ (output-refused c.args.text.now _ _ checked)).1

pub returns-in_err-known-clause-value : goal.returns-in_err-known-clause-value
returns-in_err-known-clause-value c =
    let left = err_from_is_err_and c.from_residual-in_err-known.result c.from_residual-in_err-known.ensures.1 in
    let checked = sym c.check_output.ensures ∙ c.in_ok-check_output.was in
    let refusal = rw c.in_err-known.was at (sym c.read_lines.ensures.refusal) in
    rw (left.1, left.2) (sym (assemble-refused _ _ _ (text-refused c.args.text.now c.args.out.now checked _ refusal)).0)

pub returns-in_err-known-clause-out_after : goal.returns-in_err-known-clause-out_after
returns-in_err-known-clause-out_after c =
    let checked = sym c.check_output.ensures ∙ c.in_ok-check_output.was in
    let refusal = rw c.in_err-known.was at (sym c.read_lines.ensures.refusal) in
    sym (assemble-refused _ _ _ (text-refused c.args.text.now c.args.out.now checked _ refusal)).1

-- no line is wrong
no_wrong : (p : Option ℕ) → refused_at p WrongText accept ≡ accept → p ≡ None
no_wrong None e = refl
no_wrong (Some i) e = absurd (never_both (sym e))

right : (c : goal.In_ok-known) → wrong_in c.args.text.now ≡ None
right c = no_wrong _ (rw c.in_ok-known.was at (sym c.read_lines.ensures.refusal))

pub make-requires : goal.make-requires
make-requires c =
    let known = rw c.in_ok-known.was at c.read_lines.ensures.knows in
    let few = rw c.in_ok-known.was at c.read_lines.ensures.blocks_bound in
    let whole = text-drafted c.args.text.now (right (goal.at.make-requires c).In_ok-known) in (
      omega arith,
      output-size 49664 (length c.args.out.now) (sym c.check_output.ensures ∙ c.in_ok-check_output.was),
      few.0,
      few.1,
      known.0.room,
      header-lines _ _ known.0 whole,
    )

pub returns-clause-value : goal.returns-clause-value
returns-clause-value c =
    let none = right (goal.at.returns-clause-value c).In_ok-known in
    let known = rw c.in_ok-known.was at c.read_lines.ensures.knows in
    let file = c.make.ensures (draft_in c.args.text.now) known.0 (text-drafted _ none) known.1 in
    let checked = sym c.check_output.ensures ∙ c.in_ok-check_output.was in
    rw file.0 (sym (assemble-accepted c.args.text.now c.args.out.now (text-accepted _ _ checked none)).0)

pub returns-clause-out_after : goal.returns-clause-out_after
returns-clause-out_after c =
    let none = right (goal.at.returns-clause-out_after c).In_ok-known in
    let known = rw c.in_ok-known.was at c.read_lines.ensures.knows in
    let file = c.make.ensures (draft_in c.args.text.now) known.0 (text-drafted _ none) known.1 in
    let checked = sym c.check_output.ensures ∙ c.in_ok-check_output.was in
    file.1 ∙ sym (assemble-accepted c.args.text.now c.args.out.now (text-accepted _ _ checked none)).1
