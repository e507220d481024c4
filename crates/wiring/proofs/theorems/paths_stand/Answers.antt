use Rattle.wiring.proofs.Paths.{paths_stand}
use Rattle.wiring.proofs.theorems.paths_stand.Goals as goal

pub returns : goal.returns
returns c = paths_stand
