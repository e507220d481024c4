use Rattle.banks.proofs.Marking.{shown_unmarked}
use Rattle.banks.proofs.strip.Strip.over.Goals as goal

pub returns-clause-shows : goal.returns-clause-shows
returns-clause-shows g c = shown_unmarked g.B.Kind.Signal.kind 256 (g.B.Bank.points c.args.bank)
