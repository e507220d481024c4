use Rattle.std.proofs.Common.{take}
use Rattle.wiring.specs.Circuit.{circuit}
use Rattle.translation.specs.Drafts.{Adds}
use Rattle.translation.specs.Spelling.{coil_words}
use Rattle.translation.proofs.emitters.Emitter.coils.Given as goal

abbrev pub invariant-loop-each : goal.invariant-loop-each
invariant-loop-each l = Adds l.initial.self (coil_words (take l.each-index (circuit l.initial.self.rung.now).coils)) l.self
