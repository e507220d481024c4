use Rattle.wiring.proofs.Worked.{worked_circuits}
use Rattle.wiring.proofs.theorems.worked_circuits.Goals as goal

pub returns : goal.returns
returns c = worked_circuits
