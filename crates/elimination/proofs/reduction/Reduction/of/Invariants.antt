use Rattle.rows.specs.Rows.{parts_of}
use Rattle.elimination.specs.Reduction.{Placed}
use Rattle.elimination.proofs.reduction.Reduction.of.Given as goal

abbrev pub invariant-loop-i : goal.invariant-loop-i
invariant-loop-i l = Placed l.i l.link-items l.slots (parts_of l.table.nodes)
