use Rattle.programs.proofs.Surveys.{Surveyed}
use Rattle.programs.proofs.survey.counts.Given as goal

abbrev pub invariant-loop-word : goal.invariant-loop-word
invariant-loop-word l = Surveyed l.words l.seen l.word-index
