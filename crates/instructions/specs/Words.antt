-- The 16-bit word of an instruction: operation 4 bits, area 2, number 10.
use Rattle.std.specs.Prelude.{ℕ, ◌+◌, ◌*◌, ◌/◌, ◌%◌, cond, Some, None, Option, ◌==◌, nat_lt}
use Rattle.points.specs.declared.point.Area.TheVariants.{Input, Output, Marker}
use Rattle.points.specs.Points.{area_code}
use Rattle.instructions.specs.declared.instruction.Operand.{Operand}
use Rattle.instructions.specs.declared.instruction.Operand.TheVariants.{True, At}
use Rattle.instructions.specs.declared.instruction.Instruction.{Instruction}
use Rattle.instructions.specs.declared.instruction.Instruction.TheVariants.{Load, LoadNot, And, AndNot, Or, OrNot, AndOpen, OrOpen, Close, Store, StoreNot, Set, Reset}

-- area and number of an operand; `TRUE` has area 0 and number 0
abbrev pub operand_code : Operand → ℕ
operand_code True = 0
operand_code (At p) = area_code p.area * 1024 + p.number

-- the operand of an instruction; a bracket has none, and its word has what `TRUE` has
abbrev pub operand : Instruction → Operand
operand (Load x) = x
operand (LoadNot x) = x
operand (And x) = x
operand (AndNot x) = x
operand (Or x) = x
operand (OrNot x) = x
operand AndOpen = True
operand OrOpen = True
operand Close = True
operand (Store x) = x
operand (StoreNot x) = x
operand (Set x) = x
operand (Reset x) = x

-- the number of an instruction's operation
abbrev pub operation_code : Instruction → ℕ
operation_code (Load x) = 0
operation_code (LoadNot x) = 1
operation_code (And x) = 2
operation_code (AndNot x) = 3
operation_code (Or x) = 4
operation_code (OrNot x) = 5
operation_code AndOpen = 6
operation_code OrOpen = 7
operation_code Close = 8
operation_code (Store x) = 9
operation_code (StoreNot x) = 10
operation_code (Set x) = 11
operation_code (Reset x) = 12

abbrev pub word_of : Instruction → ℕ
word_of i = operation_code i * 4096 + operand_code (operand i)

abbrev pub point_in : ℕ → ℕ → Option Operand
point_in area number =
    cond (area == 0) (cond (number == 0) (Some True) None)
    (cond (area == 1) (Some (At (record { area = Input; number = number })))
    (cond (area == 2) (Some (At (record { area = Output; number = number })))
    (cond (area == 3) (Some (At (record { area = Marker; number = number }))) None)))

-- the operand of an area and a number, if there is one
abbrev pub operand_of : ℕ → ℕ → Option Operand
operand_of area number = cond (nat_lt 255 number) None (point_in area number)

-- a bracket, which takes no operand
abbrev pub bare_of : Operand → Instruction → Option Instruction
bare_of True i = Some i
bare_of (At p) i = None

-- the instruction of an operation's number
abbrev pub shaped : ℕ → Operand → Option Instruction
shaped operation x =
    cond (operation == 0) (Some (Load x))
    (cond (operation == 1) (Some (LoadNot x))
    (cond (operation == 2) (Some (And x))
    (cond (operation == 3) (Some (AndNot x))
    (cond (operation == 4) (Some (Or x))
    (cond (operation == 5) (Some (OrNot x))
    (cond (operation == 6) (bare_of x AndOpen)
    (cond (operation == 7) (bare_of x OrOpen)
    (cond (operation == 8) (bare_of x Close)
    (cond (operation == 9) (Some (Store x))
    (cond (operation == 10) (Some (StoreNot x))
    (cond (operation == 11) (Some (Set x))
    (cond (operation == 12) (Some (Reset x))
    None))))))))))))

abbrev pub shaped_if : ℕ → Option Operand → Option Instruction
shaped_if operation None = None
shaped_if operation (Some x) = shaped operation x

-- the instruction that a word stands for, if it stands for one
abbrev pub instruction_of : ℕ → Option Instruction
instruction_of word = shaped_if (word / 4096) (operand_of (word / 1024 % 4) (word % 1024))
