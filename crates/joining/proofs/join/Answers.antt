-- `joining::join` meets its contract: the first refusal of the two files, or what joining accepted files answers.
use Rattle.std.proofs.Common.{◌∙◌, refl, sym, ap}
use Rattle.answers.specs.declared.Refused.{Refused}
use Rattle.std.proofs.lemmas.Result.{err_from_is_err_and}
use Rattle.joining.proofs.Places.{placed-is, err-made, ok-kept, refused-first, refused-second, refused-rows, accepted-all}
use Rattle.joining.proofs.join.Goals as goal

pub returns-in_err-check : goal.returns-in_err-check
returns-in_err-check c =
    let p = err_from_is_err_and c.from_residual.result c.from_residual.ensures.1 in
    let all = refused-first _ _ _ _ c.in_err-check.ensures in
    record { value = p.1 ∙ placed-is p.0 _ _ _ all.0 p.2.0 (p.2.1 ∙ sym all.1); out_after = sym all.2 }

pub returns-in_err-map_err : goal.returns-in_err-map_err
returns-in_err-map_err c =
    let p = err_from_is_err_and c.from_residual-in_err-map_err.result c.from_residual-in_err-map_err.ensures.1 in
    let made = err-made _ _ _ _ c.map_err.ensures.cases c.in_err-map_err.was in
    let all = refused-second _ _ _ _ c.in_ok-check.ensures (sym made.1 ∙ c.check-2.ensures) in
    record {
      value = p.1 ∙ placed-is p.0 _ _ _ all.0 (ap (λ (x : Refused). x.refusal) p.2 ∙ made.2.0) (ap (λ (x : Refused). x.place) p.2 ∙ made.2.1 ∙ sym all.1);
      out_after = sym all.2;
    }

pub join_accepted-requires : goal.join_accepted-requires
join_accepted-requires c = (sym c.in_ok-check.ensures, sym c.check-2.ensures ∙ ok-kept _ _ _ _ c.map_err.ensures.cases c.in_ok-map_err.was)

pub returns-in_err-join_accepted : goal.returns-in_err-join_accepted
returns-in_err-join_accepted c =
    let p = err_from_is_err_and c.from_residual-in_err-join_accepted.result c.from_residual-in_err-join_accepted.ensures.1 in
    let second = sym (ok-kept _ _ _ _ c.map_err.ensures.cases c.in_ok-map_err.was) ∙ c.check-2.ensures in
    let all = refused-rows _ _ _ _ c.in_ok-check.ensures second c.in_err-join_accepted.ensures.value in
    record { value = p.1 ∙ placed-is p.0 _ _ _ all.0 p.2.0 (p.2.1 ∙ sym all.1); out_after = c.in_err-join_accepted.ensures.out_after ∙ sym all.2 }

pub returns : goal.returns
returns c =
    let second = sym (ok-kept _ _ _ _ c.map_err.ensures.cases c.in_ok-map_err.was) ∙ c.check-2.ensures in
    let all = accepted-all _ _ _ c.in_ok-check.ensures second c.in_ok-join_accepted.ensures.value in
    record { value = rw all.0 refl; out_after = c.in_ok-join_accepted.ensures.out_after ∙ sym all.1 }
