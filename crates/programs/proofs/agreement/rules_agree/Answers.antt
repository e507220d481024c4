use Rattle.programs.proofs.Rungs.{rule_laws}
use Rattle.programs.proofs.agreement.rules_agree.Goals as goal

pub returns : goal.returns
returns c = rule_laws
