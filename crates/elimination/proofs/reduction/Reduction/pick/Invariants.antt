use Rattle.std.proofs.Common.{◌≡◌, ℕ, ◌≤◌, ◌<◌, false, get_or, None}
use Rattle.elimination.specs.Reduction.{candidate_of}
use Rattle.elimination.proofs.reduction.Reduction.pick.Given as goal

abbrev pub invariant-loop-i : goal.invariant-loop-i
invariant-loop-i l = (k : ℕ) → 0 < k → k ≤ l.i → candidate_of (get_or l.fn.gone k false) k l.self.slots ≡ None
