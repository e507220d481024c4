use Rattle.translation.proofs.Verdicts.{one_verdict}
use Rattle.translation.proofs.laws.verdict_is_one.Goals as goal

pub returns : goal.returns
returns c = one_verdict
