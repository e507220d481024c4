use Rattle.wiring.proofs.Values.{on_by_a_path}
use Rattle.wiring.proofs.theorems.on_by_a_path.Goals as goal

pub returns : goal.returns
returns g c = λ k laws two v. on_by_a_path k laws v two
