-- An instruction and its word stand for each other.
use Rattle.std.specs.Prelude.{◌≡◌, ℕ, ◌<◌, Some}
use Rattle.instructions.specs.declared.instruction.Operand.{Operand}
use Rattle.instructions.specs.declared.instruction.Operand.TheVariants.{True, At}
use Rattle.instructions.specs.declared.instruction.Instruction.{Instruction}
use Rattle.instructions.specs.Words.{operand, word_of, instruction_of}

-- a point's number is one of the 256 of its area
abbrev pub Numbered : Operand → Type 0
Numbered True = Unit {0}
Numbered (At p) = p.number < 256

pub record WordLaws : Type 0 where
  -- the word of an instruction stands for it
  pub there : (i : Instruction) → Numbered (operand i) → instruction_of (word_of i) ≡ Some i
  -- and a word that stands for an instruction is its word
  pub back : (word : ℕ) (i : Instruction) → instruction_of word ≡ Some i → word_of i ≡ word
