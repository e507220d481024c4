-- One pass over words that counts rungs and finds the deepest.
use Rattle.std.specs.Prelude.{ℕ, ◌+◌, ◌-◌, Bool, cond, ◌&&◌, Option, nat_lt}
use Rattle.instructions.specs.declared.instruction.Instruction.{Instruction}
use Rattle.instructions.specs.Depth.{opened_if}
use Rattle.programs.specs.declared.survey.Survey.{Survey}
use Rattle.programs.specs.Counts.{starts_if}

-- a rung is open, and goes deeper than any so far
abbrev pub deeper : Survey → ℕ → Bool
deeper s n = nat_lt 0 s.rungs && nat_lt s.depth n

-- what has been seen when a word leaves so many brackets open, and starts a rung or not
abbrev pub seen_at : Survey → ℕ → Bool → Survey
seen_at s n starts =
    record {
      brackets = n;
      rungs = cond starts (s.rungs + 1) s.rungs;
      depth = cond (deeper s n) n s.depth;
      first = cond (deeper s n) (s.rungs - 1) s.first;
    }

-- what has been seen after one word more
abbrev pub seen_after : Survey → Option Instruction → Survey
seen_after s i = seen_at s (opened_if s.brackets i) (starts_if s.brackets i)
