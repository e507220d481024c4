use Rattle.std.proofs.Common.{◌≡◌, take, drop, Ok}
use Rattle.programs.specs.Rules.{start, led}
use Rattle.programs.specs.Drafts.{drafted, standing}
use Rattle.programs.proofs.program.Program.of.Given as goal

abbrev pub invariant-loop-word : goal.invariant-loop-word
invariant-loop-word l = (led (Ok (standing l.draft)) (drop l.word-index l.words) ≡ led (Ok start) l.words) × (drafted l.draft ≡ take l.word-index l.words)
