use Rattle.std.proofs.Common.{rules, arith}
use Rattle.programs.proofs.Surveys.{surveyed_none, surveyed_more}
use Rattle.programs.proofs.survey.counts.Goals as goal

pub loop-word-init : goal.loop-word-init
loop-word-init c = surveyed_none c.args.words.now _ (search rules)

pub loop-word-preserved : goal.loop-word-preserved
loop-word-preserved c = surveyed_more c.args.words.now c.loop-word.seen c.after-seen.result c.loop-word.word-index (omega arith) c.after-seen.ensures c.loop-word.invariant
