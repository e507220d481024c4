use Rattle.std.proofs.lemmas.Option.{unwrap_or-slice_get}
use Rattle.points.specs.Points.{index_of}
use Rattle.scanning.proofs.engine.signal_at.Goals as goal

pub returns : goal.returns
returns g c = let e = unwrap_or-slice_get (g.B.Bank.points c.args.bank.now) (index_of c.args.point) g.B.Kind.Signal.kind.off in cc
