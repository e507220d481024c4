use Rattle.std.proofs.Common.{◌≡◌, ◌++◌, map, take, drop}
use Rattle.elimination.specs.Slots.{spared}
use Rattle.elimination.proofs.slots.clear.Given as goal

abbrev pub invariant-loop-slot : goal.invariant-loop-slot
invariant-loop-slot l = l.slots ≡ map (spared l.joint) (take l.slot-index l.initial.slots) ++ drop l.slot-index l.initial.slots
