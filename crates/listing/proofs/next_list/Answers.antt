-- `listing::next_list` meets its contract, answer by answer.
use Rattle.std.proofs.Common.{refl, sym, ◌∙◌, arith}
use Rattle.std.proofs.lemmas.Result.{err_from_is_err_and}
use Rattle.listing.specs.Calls.{next_answer}
use Rattle.listing.proofs.Accepted.{is-accepted, short, positive, next-listed}
use Rattle.listing.proofs.next_list.Goals as goal

pub returns-in_err-check : goal.returns-in_err-check
unfolding next_answer
returns-in_err-check c =
    let p = err_from_is_err_and c.from_residual.result c.from_residual.ensures.1 in
    rw (p.1, p.2, ← c.in_err-check.ensures) refl

pub find_next-requires : goal.find_next-requires
find_next-requires c = (is-accepted _ (sym c.in_ok-check.ensures), short _ (sym c.in_ok-check.ensures))

pub returns-in_default : goal.returns-in_default
unfolding next_answer
returns-in_default c =
    let none = next-listed c.args.file.now (sym c.in_ok-check.ensures) c.args.start ∙ sym c.in_default.ensures in
    rw (← c.in_ok-check.ensures, none) refl

pub block_count-requires : goal.block_count-requires
block_count-requires c = is-accepted _ (sym c.in_ok-check.ensures)

pub points_of-points-requires : goal.points_of-points-requires
points_of-points-requires c =
    let file = c.args.file.now in
    let listed = sym c.in_ok-check.ensures in
    (omega (arith, c.block_count.ensures.0, positive file listed), omega (arith, c.block_count.ensures.0, short file listed))

pub returns : goal.returns
unfolding next_answer
returns c =
    let some = next-listed c.args.file.now (sym c.in_ok-check.ensures) c.args.start ∙ sym c.in-Some.ensures in
    let points = c.points_of-points.ensures in
    rw (← c.in_ok-check.ensures, some, ← c.block_count.ensures.0, ← points.1, ← points.0) refl
