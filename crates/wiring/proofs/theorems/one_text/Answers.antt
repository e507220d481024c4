use Rattle.wiring.proofs.Circuits.{one_text}
use Rattle.wiring.proofs.theorems.one_text.Goals as goal

pub returns : goal.returns
returns c = one_text
