use Rattle.scanning.proofs.Agreement.{scans_agree, one_outcome}
use Rattle.scanning.proofs.theorems.scans_agree.Goals as goal

pub returns : goal.returns
returns g c = record { agree = scans_agree; one = one_outcome }
