use Rattle.controller.proofs.Histories.{operated}
use Rattle.controller.proofs.runs.operate.Goals as goal

pub returns-clause-run : goal.returns-clause-run
returns-clause-run g c = operated _ _ _ _ _ _ _ _ c.perform-performed.result (c.make-controller.ensures.stands c.args.buffer.now) c.perform-performed.ensures.run
