-- The rules on states and brackets alone, apart from the limits, and the law that ties both.
use Rattle.std.specs.Prelude.{◌≡◌, ℕ, ◌≤◌, true, List, [], ◌∷◌, length, Some, None, Option}
use Rattle.instructions.specs.declared.instruction.Instruction.{Instruction}
use Rattle.instructions.specs.Words.{instruction_of}
use Rattle.instructions.specs.Depth.{opened, depth}
use Rattle.programs.specs.declared.checker.State.{State}
use Rattle.programs.specs.declared.checker.State.TheVariants.{Begun}
use Rattle.programs.specs.Rules.{ends, next, keeps}
use Rattle.programs.specs.Counts.{starts_of}

-- the state and the open brackets after an instruction, once its next state is known
abbrev pub pass_to : ℕ → Instruction → Option State → Option (State × ℕ)
pass_to n i None = None
pass_to n i (Some s) = Some (s, opened n i)

-- the state and the open brackets after an instruction, if it is allowed
abbrev pub pass : Option (State × ℕ) → Option Instruction → Option (State × ℕ)
pass None i = None
pass (Some (s, n)) None = None
pass (Some (s, n)) (Some i) = pass_to n i (next s n i)

-- the state and the open brackets after words, if each is allowed in turn
abbrev pub passes : Option (State × ℕ) → List ℕ → Option (State × ℕ)
passes now [] = now
passes now (word ∷ words) = passes (pass now (instruction_of word)) words

-- words that are allowed in turn, end begun or stored, and stay within 15 brackets, 128 rungs and 4,096 words
pub record Standing (words : List ℕ) : Type 0 where
  pub state : State
  pub brackets : ℕ
  pub passed : passes (Some (Begun, 0)) words ≡ Some (state, brackets)
  pub ended : ends state ≡ true
  pub shallow : depth words ≤ 15
  pub few : length (starts_of words) ≤ 128
  pub short : length words ≤ 4096

-- the words that keep the rules are exactly these
pub record RuleLaws : Type 0 where
  pub kept : (words : List ℕ) → keeps words ≡ true → Standing words
  pub keeping : (words : List ℕ) → Standing words → keeps words ≡ true
