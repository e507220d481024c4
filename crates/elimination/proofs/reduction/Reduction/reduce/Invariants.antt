use Rattle.std.proofs.Common.{◌≡◌, ◌+◌, length}
use Rattle.rows.specs.Rows.{parts_of}
use Rattle.elimination.specs.Slots.{edges, live}
use Rattle.elimination.specs.Reduction.{Work, left_of}
use Rattle.elimination.proofs.reduction.Reduction.reduce.Given as goal

abbrev pub invariant-loop-next : goal.invariant-loop-next
invariant-loop-next l =
    (l.self.joints ≡ l.initial.self.joints)
    × Work l.self.joints (length (parts_of l.initial.self.table.nodes) + live l.initial.self.slots) (edges (parts_of l.initial.self.table.nodes) l.initial.self.slots) l.self.slots (parts_of l.self.table.nodes) l.gone

abbrev pub decreases-loop-next : goal.decreases-loop-next
decreases-loop-next l = left_of l.gone
