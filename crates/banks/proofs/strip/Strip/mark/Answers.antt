use Rattle.std.proofs.Common.{◌≡◌, ◌<◌, length, arith, rules}
use Rattle.banks.proofs.Marking.{marked_here, marked_elsewhere}
use Rattle.banks.proofs.strip.Strip.mark.Goals as goal

pub returns-then-input-lt256-clause-here : goal.returns-then-input-lt256-clause-here
returns-then-input-lt256-clause-here g c =
    let l : length c.args.self.now.marks ≡ 256 = search rules in
    let h : c.args.input < length c.args.self.now.marks = omega arith in
    λ _. marked_here g.B.Kind.Signal.kind c.args.self.now.marks (g.B.Bank.points c.args.self.now.bank) c.args.input c.args.inverted h

pub returns-then-input-lt256-clause-elsewhere : goal.returns-then-input-lt256-clause-elsewhere
returns-then-input-lt256-clause-elsewhere g c = marked_elsewhere g.B.Kind.Signal.kind c.args.self.now.marks (g.B.Bank.points c.args.self.now.bank) c.args.input c.args.inverted
