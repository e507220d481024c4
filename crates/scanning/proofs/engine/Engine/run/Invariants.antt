use Rattle.std.proofs.Common.{◌≡◌}
use Rattle.scanning.specs.Machine.{runs}
use Rattle.scanning.specs.Working.{standing}
use Rattle.scanning.proofs.Scans.{Going}
use Rattle.scanning.proofs.engine.Engine.run.Given as goal

abbrev pub invariant-loop-word : goal.invariant-loop-word
invariant-loop-word g l =
    let k = g.B.Kind.Signal.kind in
    let points = g.B.Bank.points in
    record {
      going : Going k l.words l.word-index (standing l.self (points l.bank)) (runs k l.words (standing l.initial.self (points l.initial.bank)));
      untouched : g.B.Bank.rest l.bank ≡ g.B.Bank.rest l.initial.bank;
    }
