use Rattle.std.proofs.Common.{◌≡◌, ap, ◌∙◌, length, arith}
use Rattle.programs.specs.Programs.{held}
use Rattle.scanning.specs.Machine.{scanned}
use Rattle.scanning.specs.Working.{fitting}
use Rattle.scanning.proofs.Fitting.{keeps-fits}
use Rattle.scanning.proofs.Scans.{left_scanned, left_by_paths, left_unnamed}
use Rattle.scanning.proofs.program.scan.Goals as goal

pub run-requires : goal.run-requires
run-requires g c =
    ap (λ m. fitting (length m.aside) c.words.result.now) (c.over.ensures (g.B.Bank.points c.args.bank.now))
    ∙ ap (fitting 0) c.words.ensures ∙ keeps-fits (held c.args.program.now) c.args.program.now.ok

pub returns : goal.returns
returns g c =
    let k = g.B.Kind.Signal.kind in
    let words = held c.args.program.now in
    let points = g.B.Bank.points c.args.bank.now in
    let e : g.B.Bank.points c.run.new.bank ≡ scanned k words points = left_scanned k c.words.result.now words points _ _ c.run.ensures.runs c.words.ensures (c.over.ensures points) in
    record {
      test = omega arith;
      after = e;
      paths = left_by_paths k g.met.B.Kind.Signal.laws words points _ e;
      same = left_unnamed k words points _ e;
      untouched = c.run.ensures.untouched;
    }
