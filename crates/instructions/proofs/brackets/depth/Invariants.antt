use Rattle.std.proofs.Common.{◌≡◌, ◌≤◌, max, drop}
use Rattle.instructions.specs.Depth.{deepest, depth}
use Rattle.instructions.proofs.brackets.depth.Given as goal

abbrev pub invariant-loop-word : goal.invariant-loop-word
invariant-loop-word l = (max l.deepest (deepest l.«open» (drop l.word-index l.words)) ≡ depth l.words) × (l.«open» ≤ l.word-index) × (l.«open» ≤ l.deepest)
