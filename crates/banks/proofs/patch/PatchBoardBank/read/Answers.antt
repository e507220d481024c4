use Rattle.std.proofs.Common.{◌≡◌, length, sym, ap, ◌∙◌}
use Rattle.std.specs.List.{slice_get}
use Rattle.banks.specs.Patches.{place}
use Rattle.banks.proofs.Patching.{Permutation, slice_get-patched}
use Rattle.banks.proofs.patch.PatchBoardBank.read.Goals as goal

pub returns : goal.returns
returns g c =
    let t = c.args.self.now.table in
    let xs = g.B.Bank.points c.args.self.now.bank in
    let p : Permutation c.args.self.now.table.to = record { whole = t.whole; within = t.within; apart = t.apart } in
    let e : c.place-at.result ≡ place c.args.self.now.table.to (length (g.B.Bank.points c.args.self.now.bank)) c.args.index =
    c.place-at.ensures ∙ ap (λ n. place t.to n c.args.index) c.count.ensures in
    c.read.ensures ∙ ap (slice_get xs) e ∙ sym (slice_get-patched t.to p g.B.Kind.Signal.kind xs c.args.index)
