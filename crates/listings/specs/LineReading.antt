-- Reading a line, without its end.
use Rattle.std.specs.Prelude.{ℕ, ◌+◌, Bool, true, false, cond, List, [], ◌∷◌, length, take, drop, Some, None, codes, Option, ◌==◌, nat_lt}
use Rattle.std.specs.Str.{bytes_eq}
use Rattle.instructions.specs.declared.instruction.Operand.{Operand}
use Rattle.instructions.specs.declared.instruction.Operand.TheVariants.{True}
use Rattle.instructions.specs.declared.instruction.Instruction.{Instruction}
use Rattle.instructions.specs.declared.instruction.Instruction.TheVariants.{Load, LoadNot, And, AndNot, Or, OrNot, AndOpen, OrOpen, Close, Store, StoreNot, Set, Reset}
use Rattle.listings.specs.Operands.{operand_read}

-- where a byte stands first, or the length
abbrev pub byte_in : ℕ → List ℕ → ℕ
byte_in byte [] = 0
byte_in byte (b ∷ bs) = cond (b == byte) 0 (1 + byte_in byte bs)

-- an instruction if a name is its mnemonic, or else another
abbrev pub either : List ℕ → List ℕ → Instruction → Option Instruction → Option Instruction
either bs name i else = cond (bytes_eq bs name) (Some i) else

-- the instruction with this mnemonic, onto an operand
abbrev pub named : List ℕ → Operand → Option Instruction
named bs x =
    either bs (codes "LD") (Load x)
    (either bs (codes "LDN") (LoadNot x)
    (either bs (codes "AND") (And x)
    (either bs (codes "ANDN") (AndNot x)
    (either bs (codes "OR") (Or x)
    (either bs (codes "ORN") (OrNot x)
    (either bs (codes "AND(") AndOpen
    (either bs (codes "OR(") OrOpen
    (either bs (codes ")") Close
    (either bs (codes "ST") (Store x)
    (either bs (codes "STN") (StoreNot x)
    (either bs (codes "S") (Set x)
    (either bs (codes "R") (Reset x)
    None))))))))))))

-- a bracket stands without an operand
abbrev pub bare : Instruction → Bool
bare (Load x) = false
bare (LoadNot x) = false
bare (And x) = false
bare (AndNot x) = false
bare (Or x) = false
bare (OrNot x) = false
bare AndOpen = true
bare OrOpen = true
bare Close = true
bare (Store x) = false
bare (StoreNot x) = false
bare (Set x) = false
bare (Reset x) = false

-- an instruction that stands without an operand
abbrev pub alone : Option Instruction → Option Instruction
alone None = None
alone (Some i) = cond (bare i) (Some i) None

-- an instruction that stands with an operand
abbrev pub joined_by : Option Instruction → Option Instruction
joined_by None = None
joined_by (Some i) = cond (bare i) None (Some i)

-- a mnemonic, a space and an operand
abbrev pub spaced : List ℕ → Option Operand → Option Instruction
spaced name None = None
spaced name (Some x) = joined_by (named name x)

-- the instruction that a line says, if it says one: a mnemonic, then a space and an operand except for a bracket
abbrev pub line_read : List ℕ → Option Instruction
line_read bs =
    cond (nat_lt (byte_in 32 bs) (length bs)) (spaced (take (byte_in 32 bs) bs) (operand_read (drop (byte_in 32 bs + 1) bs)))
    (alone (named bs True))
