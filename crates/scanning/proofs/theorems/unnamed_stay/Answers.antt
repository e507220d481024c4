use Rattle.scanning.proofs.Staying.{unnamed_stay}
use Rattle.scanning.proofs.theorems.unnamed_stay.Goals as goal

pub returns : goal.returns
returns g c = unnamed_stay
