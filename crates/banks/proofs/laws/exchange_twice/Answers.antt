use Rattle.std.proofs.Common.{ap, ◌∙◌}
use Rattle.banks.specs.Patches.{rewired, patched}
use Rattle.banks.proofs.Patching.{rewired_twice}
use Rattle.banks.proofs.laws.exchange_twice.Goals as goal

pub returns : goal.returns
returns g c =
    let t = c.args.board.now.table in
    let below = c.exchange-2.ensures.below ∙ c.exchange.ensures.below in
    let restored =
    c.exchange-2.ensures.swaps ∙ ap (λ us. rewired us c.args.a c.args.b) c.exchange.ensures.swaps
    ∙ rewired_twice t.to t.whole c.args.a c.args.b in
    record {
      told = c.exchange-2.ensures.told;
      below = below;
      restored = restored;
      shows = ap (λ us. patched g.B.Kind.Signal.kind us (g.B.Bank.points c.exchange-2.new.self.bank)) restored
          ∙ ap (λ b. patched g.B.Kind.Signal.kind t.to (g.B.Bank.points b)) below;
    }
