use Rattle.std.proofs.Common.{◌≡◌, false, get_or, sym, ap, ◌∙◌, rules}
use Rattle.std.specs.Option.{option_map}
use Rattle.banks.specs.Marks.{past}
use Rattle.banks.proofs.Marking.{slice_get-shown}
use Rattle.banks.proofs.strip.StripBank.read.Goals as goal

pub returns : goal.returns
returns g c =
    let k = g.B.Kind.Signal.kind in
    let f = past k (get_or c.args.self.now.marks c.args.index false) in
    let passed : c.map.result ≡ option_map (past g.B.Kind.Signal.kind (get_or c.args.self.now.marks c.args.index false)) c.read.result = search rules in
    passed ∙ ap (option_map f) c.read.ensures ∙ sym (slice_get-shown k c.args.self.now.marks (g.B.Bank.points c.args.self.now.bank) c.args.index)
