use Rattle.std.proofs.Common.{◌≡◌, drop}
use Rattle.elimination.specs.Slots.{far_ends, only_of}
use Rattle.elimination.proofs.Picking.{only_from}
use Rattle.elimination.proofs.slots.only_end.Given as goal

abbrev pub invariant-loop-slot : goal.invariant-loop-slot
invariant-loop-slot l = only_from l.only (far_ends l.side l.joint (drop l.slot-index l.slots)) ≡ only_of (far_ends l.side l.joint l.slots)
