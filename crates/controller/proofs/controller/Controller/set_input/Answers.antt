use Rattle.std.proofs.Common.{refl, arith}
use Rattle.std.proofs.lemmas.Result.{err_from_is_err_and}
use Rattle.controller.proofs.Steps.{input_small_step, no_input_step, input_step}
use Rattle.controller.proofs.controller.Controller.set_input.Goals as goal

pub returns-in_err-whole_bank-clause-step : goal.returns-in_err-whole_bank-clause-step
returns-in_err-whole_bank-clause-step g c =
    let p = err_from_is_err_and c.from_residual.result c.from_residual.ensures.1 in
    rw (p.1, p.2) (input_small_step _ _ _ _ _ _ refl refl c.in_err-whole_bank.ensures)

pub returns-then-number-ge256-clause-step : goal.returns-then-number-ge256-clause-step
returns-then-number-ge256-clause-step g c = no_input_step _ _ _ _ _ _ refl refl c.in_ok-whole_bank.ensures (omega arith)

pub returns-clause-step : goal.returns-clause-step
returns-clause-step g c = input_step _ _ _ _ _ _ c.write.ensures.after refl c.in_ok-whole_bank.ensures (omega arith)
