use Rattle.std.proofs.Common.{arith}
use Rattle.rows.specs.Rows.{parts_of}
use Rattle.elimination.proofs.Eliminating.{eliminated}
use Rattle.elimination.proofs.reduction.Reduction.eliminate.Goals as goal

pub invariant_of-self : goal.invariant_of-self
invariant_of-self c =
    let E = eliminated c.args.passage.joint c.args.passage.from c.args.passage.to (parts_of c.args.self.now.table.nodes) c.args.self.now.slots c.args.self.now.stands c.requires.may (parts_of c.merge-group.new.table.nodes) c.merge-group.result c.merge-group.ensures (omega arith) c.requires.apart c.clear.new.slots c.clear.ensures in
    let n = E.room in
    record { stands = E.stands; room = omega arith; two = c.args.self.now.two; most = c.args.self.now.most }

pub returns-clause-step : goal.returns-clause-step
returns-clause-step c =
    eliminated c.args.passage.joint c.args.passage.from c.args.passage.to (parts_of c.args.self.now.table.nodes) c.args.self.now.slots c.args.self.now.stands c.requires.may (parts_of c.merge-group.new.table.nodes) c.merge-group.result c.merge-group.ensures (omega arith) c.requires.apart c.clear.new.slots c.clear.ensures
