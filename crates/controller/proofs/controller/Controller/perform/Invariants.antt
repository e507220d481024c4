use Rattle.std.proofs.Common.{◌≡◌}
use Rattle.controller.proofs.Histories.{Going}
use Rattle.controller.proofs.controller.Controller.perform.Given as goal

abbrev pub invariant-loop-i : goal.invariant-loop-i
invariant-loop-i g l =
    record {
      going :
          Going g.B.Kind.Signal.kind g.B.Bank.points l.initial.self
          (record { work = l.initial.work; bytes = l.initial.buffer; answers = l.initial.answers }) l.calls l.i l.self
          (record { work = l.work; bytes = l.buffer; answers = l.answers });
      untouched : g.B.Bank.rest l.self.bank ≡ g.B.Bank.rest l.initial.self.bank;
    }
