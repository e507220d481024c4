use Rattle.std.proofs.Common.{ltb, set, sym, ap, ◌∙◌}
use Rattle.banks.specs.Kept.{layered}
use Rattle.banks.specs.Marks.{shown}
use Rattle.banks.specs.Short.{length-shown}
use Rattle.banks.proofs.Marking.{set-shown}
use Rattle.banks.proofs.strip.StripBank.write.Goals as goal

pub returns : goal.returns
returns g c =
    let k = g.B.Kind.Signal.kind in
    let ms = c.args.self.now.marks in
    let xs = g.B.Bank.points c.args.self.now.bank in
    let below = c.write.ensures.after ∙ ap (set xs c.args.index) c.past_mark-passed.ensures in
    record {
      told = c.write.ensures.told ∙ ap (ltb c.args.index) (sym (length-shown k ms xs));
      after = ap (shown k ms) below ∙ set-shown k g.met.B.Kind.Signal.laws ms xs c.args.index c.args.signal;
      untouched = ap (layered ms) c.write.ensures.untouched;
      below = below;
    }
