use Rattle.std.proofs.Common.{sym, ◌∙◌}
use Rattle.banks.specs.Short.{length-patched}
use Rattle.banks.proofs.patch.PatchBoardBank.count.Goals as goal

pub returns : goal.returns
returns g c = c.count.ensures ∙ sym (length-patched g.B.Kind.Signal.kind c.args.self.now.table.to (g.B.Bank.points c.args.self.now.bank))
