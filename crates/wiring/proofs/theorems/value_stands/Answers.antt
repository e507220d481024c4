use Rattle.wiring.proofs.Values.{value_of_paths, one_joining}
use Rattle.wiring.proofs.theorems.value_stands.Goals as goal

pub returns : goal.returns
returns g c = record { value = value_of_paths; joining = one_joining }
