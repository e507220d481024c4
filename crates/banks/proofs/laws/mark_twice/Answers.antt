use Rattle.std.proofs.Common.{set, ap, ◌∙◌, set-set}
use Rattle.banks.proofs.laws.mark_twice.Goals as goal

pub returns-clause-once : goal.returns-clause-once
returns-clause-once g c = c.mark-2.ensures.marked ∙ ap (λ ms. set ms c.args.input c.args.inverted) c.mark.ensures.marked ∙ set-set c.args.strip.now.marks c.args.input c.args.inverted c.args.inverted
