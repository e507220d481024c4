use Rattle.scanning.proofs.RuledOut.{fed_alike, set_keeps_on}
use Rattle.scanning.proofs.theorems.ruled_out.Goals as goal

pub returns : goal.returns
returns g c = record { fed = fed_alike; set = set_keeps_on }
