-- The lines of a listing.
use Rattle.std.specs.Prelude.{ℕ, List, [], ◌∷◌, ◌++◌, Some, None, codes, decimal, Option}
use Rattle.std.specs.List.{flat_map}
use Rattle.points.specs.declared.point.Area.{Area}
use Rattle.points.specs.declared.point.Area.TheVariants.{Input, Output, Marker}
use Rattle.instructions.specs.declared.instruction.Operand.{Operand}
use Rattle.instructions.specs.declared.instruction.Operand.TheVariants.{True, At}
use Rattle.instructions.specs.declared.instruction.Instruction.{Instruction}
use Rattle.instructions.specs.declared.instruction.Instruction.TheVariants.{Load, LoadNot, And, AndNot, Or, OrNot, AndOpen, OrOpen, Close, Store, StoreNot, Set, Reset}
use Rattle.instructions.specs.Words.{instruction_of}

-- the letter of an area
abbrev pub letter : Area → ℕ
letter Input = 73
letter Output = 81
letter Marker = 77

abbrev pub mnemonic : Instruction → List ℕ
mnemonic (Load x) = codes "LD"
mnemonic (LoadNot x) = codes "LDN"
mnemonic (And x) = codes "AND"
mnemonic (AndNot x) = codes "ANDN"
mnemonic (Or x) = codes "OR"
mnemonic (OrNot x) = codes "ORN"
mnemonic AndOpen = codes "AND("
mnemonic OrOpen = codes "OR("
mnemonic Close = codes ")"
mnemonic (Store x) = codes "ST"
mnemonic (StoreNot x) = codes "STN"
mnemonic (Set x) = codes "S"
mnemonic (Reset x) = codes "R"

-- the operand that a line shows; a bracket shows none
abbrev pub shown : Instruction → Option Operand
shown (Load x) = Some x
shown (LoadNot x) = Some x
shown (And x) = Some x
shown (AndNot x) = Some x
shown (Or x) = Some x
shown (OrNot x) = Some x
shown AndOpen = None
shown OrOpen = None
shown Close = None
shown (Store x) = Some x
shown (StoreNot x) = Some x
shown (Set x) = Some x
shown (Reset x) = Some x

abbrev pub operand_text : Operand → List ℕ
operand_text True = codes "TRUE"
operand_text (At p) = 37 ∷ (letter p.area ∷ decimal p.number)

-- a space and the operand, where there is one
abbrev pub operand_part : Option Operand → List ℕ
operand_part None = []
operand_part (Some x) = 32 ∷ operand_text x

-- a line with its end, byte 10
abbrev pub line_of : Instruction → List ℕ
line_of i = mnemonic i ++ (operand_part (shown i) ++ 10 ∷ [])

-- the line of an instruction, where there is one
abbrev pub line_if : Option Instruction → List ℕ
line_if None = []
line_if (Some i) = line_of i

-- the line of a word; a word that stands for no instruction has none
abbrev pub word_line : ℕ → List ℕ
word_line w = line_if (instruction_of w)

-- the lines of the words, one after the other
abbrev pub listing : List ℕ → List ℕ
listing ws = flat_map word_line ws
