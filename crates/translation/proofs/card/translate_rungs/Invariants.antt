use Rattle.translation.specs.Judgement.{Verdict, JudgedFrom, CardJudged}
use Rattle.translation.proofs.card.translate_rungs.Given as goal

abbrev pub invariant-loop-read : goal.invariant-loop-read
invariant-loop-read l = (v : Verdict) → JudgedFrom l.card l.progress l.staged v → CardJudged l.card v

abbrev pub decreases-loop-read : goal.decreases-loop-read
decreases-loop-read l = l.progress.left
