use Rattle.std.proofs.Common.{ap, ◌∙◌}
use Rattle.banks.specs.Patches.{swapped, patched}
use Rattle.banks.proofs.Patching.{patched-rewired}
use Rattle.banks.proofs.patch.PatchBoard.exchange.Goals as goal

pub returns-clause-shows : goal.returns-clause-shows
returns-clause-shows g c =
    let k = g.B.Kind.Signal.kind in
    let t = c.args.self.now.table in
    let xs = g.B.Bank.points c.args.self.now.bank in
    let a = c.in-Ok-Ok.ensures in
    let b = c.in-Ok-Ok.ensures' in
    ap (λ us. patched k us xs) c.exchange.ensures
    ∙ ap (λ x. patched k (swapped 0 t.to x c.in-Ok-Ok.b) xs) a.1
    ∙ ap (λ y. patched k (swapped 0 t.to c.args.a y) xs) b.1
    ∙ patched-rewired t.to t.whole c.args.a c.args.b a.0 b.0 k xs
