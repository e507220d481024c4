use Rattle.std.proofs.Common.{◌≡◌, ltb, length, set, sym, ap, ◌∙◌}
use Rattle.banks.specs.Kept.{layered}
use Rattle.banks.specs.Patches.{place, patched}
use Rattle.banks.specs.Short.{length-patched}
use Rattle.banks.proofs.Patching.{Permutation, set-patched, place_test}
use Rattle.banks.proofs.patch.PatchBoardBank.write.Goals as goal

pub returns : goal.returns
returns g c =
    let t = c.args.self.now.table in
    let k = g.B.Kind.Signal.kind in
    let xs = g.B.Bank.points c.args.self.now.bank in
    let p : Permutation c.args.self.now.table.to = record { whole = t.whole; within = t.within; apart = t.apart } in
    let e : c.place-at.result ≡ place c.args.self.now.table.to (length (g.B.Bank.points c.args.self.now.bank)) c.args.index =
    c.place-at.ensures ∙ ap (λ n. place t.to n c.args.index) c.count.ensures in
    let below = c.write.ensures.after ∙ ap (λ i. set xs i c.args.signal) e in
    record {
      told = c.write.ensures.told ∙ ap (λ i. ltb i (length xs)) e ∙ place_test t.to p (length xs) c.args.index ∙ ap (ltb c.args.index) (sym (length-patched k t.to xs));
      after = ap (patched k t.to) below ∙ set-patched t.to p k xs c.args.index c.args.signal;
      untouched = ap (layered t.to) c.write.ensures.untouched;
      below = below;
    }
