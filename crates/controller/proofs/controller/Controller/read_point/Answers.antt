use Rattle.std.proofs.Common.{refl, sym}
use Rattle.std.proofs.lemmas.Result.{err_from_is_err_and}
use Rattle.controller.proofs.Steps.{point_small_step, point_read_step}
use Rattle.controller.proofs.controller.Controller.read_point.Goals as goal

pub returns-in_err-whole_bank : goal.returns-in_err-whole_bank
returns-in_err-whole_bank g c =
    let p = err_from_is_err_and c.from_residual.result c.from_residual.ensures.1 in
    rw (p.1, p.2) (point_small_step _ _ _ _ _ refl refl c.in_err-whole_bank.ensures)

pub returns : goal.returns
returns g c = point_read_step _ _ _ _ _ _ _ refl refl c.in_ok-whole_bank.ensures (sym c.read.ensures) c.ok_or.ensures.value
