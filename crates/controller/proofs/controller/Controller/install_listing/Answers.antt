use Rattle.std.proofs.Common.{refl, ap}
use Rattle.std.proofs.lemmas.Result.{err_from_is_err_and}
use Rattle.programs.specs.Programs.{held}
use Rattle.controller.proofs.Steps.{listing_small_step, listing_refused_step, listing_step}
use Rattle.controller.proofs.controller.Controller.install_listing.Goals as goal

pub returns-in_err-whole_bank-clause-step : goal.returns-in_err-whole_bank-clause-step
returns-in_err-whole_bank-clause-step g c =
    let p = err_from_is_err_and c.from_residual.result c.from_residual.ensures.1 in
    rw (p.1, p.2) (listing_small_step _ _ _ _ _ refl refl c.in_err-whole_bank.ensures)

pub returns-in_err-read_into-clause-step : goal.returns-in_err-read_into-clause-step
returns-in_err-read_into-clause-step g c =
    let p = err_from_is_err_and c.from_residual-in_err-read_into.result c.from_residual-in_err-read_into.ensures.1 in
    let h = c.in_err-read_into.ensures in
    rw (p.1, p.2) (listing_refused_step _ _ _ _ _ _ refl (ap held h.1) c.in_ok-whole_bank.ensures h.0)

pub returns-clause-step : goal.returns-clause-step
returns-clause-step g c =
    let h = c.in_ok-read_into.ensures in
    listing_step _ _ _ _ _ _ refl c.in_ok-whole_bank.ensures h.0 h.1
