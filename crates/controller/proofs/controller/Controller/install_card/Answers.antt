use Rattle.std.proofs.Common.{refl, ap}
use Rattle.std.proofs.lemmas.Result.{err_from_is_err_and}
use Rattle.programs.specs.Programs.{held}
use Rattle.controller.proofs.Steps.{card_small_step, card_refused_step, card_step}
use Rattle.controller.proofs.controller.Controller.install_card.Goals as goal

pub returns-in_err-whole_bank-clause-step : goal.returns-in_err-whole_bank-clause-step
returns-in_err-whole_bank-clause-step g c =
    let p = err_from_is_err_and c.from_residual.result c.from_residual.ensures.1 in
    rw (p.1, p.2) (card_small_step _ _ _ _ _ refl refl c.in_err-whole_bank.ensures)

pub returns-in_err-take_card-clause-step : goal.returns-in_err-take_card-clause-step
returns-in_err-take_card-clause-step g c =
    let p = err_from_is_err_and c.from_residual-in_err-take_card.result c.from_residual-in_err-take_card.ensures.1 in
    let h = c.in_err-take_card.ensures in
    rw (p.1, p.2) (card_refused_step _ _ _ _ _ _ refl (ap held h.1) c.in_ok-whole_bank.ensures h.0)

pub returns-clause-step : goal.returns-clause-step
returns-clause-step g c =
    let h = c.in_ok-take_card.ensures in
    card_step _ _ _ _ _ _ refl c.in_ok-whole_bank.ensures h.0 h.1
