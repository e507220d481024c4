use Rattle.controller.proofs.Steps.{write_status_step}
use Rattle.controller.proofs.controller.Controller.write_status.Goals as goal

pub returns : goal.returns
returns g c = write_status_step _ _ _ _ _ _ c.write_status.ensures
