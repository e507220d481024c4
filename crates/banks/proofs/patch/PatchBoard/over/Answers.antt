use Rattle.banks.proofs.Patching.{patched-straight}
use Rattle.banks.proofs.patch.PatchBoard.over.Goals as goal

pub returns-clause-shows : goal.returns-clause-shows
returns-clause-shows g c = patched-straight g.B.Kind.Signal.kind c.straight-table.result.to (g.B.Bank.points c.args.bank) c.straight-table.ensures
