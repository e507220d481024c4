use Rattle.std.proofs.Common.{refl, ap}
use Rattle.std.proofs.lemmas.Result.{err_from_is_err_and}
use Rattle.controller.proofs.Steps.{scan_small_step, few_signals_step, scan_step}
use Rattle.controller.proofs.controller.Controller.scan.Goals as goal

pub returns-in_err-whole_bank-clause-step : goal.returns-in_err-whole_bank-clause-step
returns-in_err-whole_bank-clause-step g c =
    let p = err_from_is_err_and c.from_residual.result c.from_residual.ensures.1 in
    rw (p.1, p.2) (scan_small_step _ _ _ _ _ refl refl c.in_err-whole_bank.ensures)

pub returns-in_err-scan-clause-step : goal.returns-in_err-scan-clause-step
returns-in_err-scan-clause-step g c =
    let p = err_from_is_err_and c.from_residual-in_err-scan.result c.from_residual-in_err-scan.ensures.1 in
    let h = c.in_err-scan.ensures in
    rw (p.1, p.2) (few_signals_step _ _ _ _ _ (ap g.B.Bank.points h.test.2) refl c.in_ok-whole_bank.ensures h.test.0)

pub returns-clause-step : goal.returns-clause-step
returns-clause-step g c =
    let h = c.in_ok-scan.ensures in
    scan_step _ _ _ _ _ g.met.B.Kind.Signal.laws refl c.in_ok-whole_bank.ensures h.test h.after h.same h.paths
