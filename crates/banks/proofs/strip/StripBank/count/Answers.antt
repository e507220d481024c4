use Rattle.std.proofs.Common.{sym, ◌∙◌}
use Rattle.banks.specs.Short.{length-shown}
use Rattle.banks.proofs.strip.StripBank.count.Goals as goal

pub returns : goal.returns
returns g c = c.count.ensures ∙ sym (length-shown g.B.Kind.Signal.kind c.args.self.now.marks (g.B.Bank.points c.args.self.now.bank))
