-- Reading the operand of a line.
use Rattle.std.specs.Prelude.{ℕ, ◌+◌, ◌-◌, ◌*◌, Bool, cond, ◌&&◌, List, [], ◌∷◌, length, drop, Some, None, Option, ◌==◌, nat_le, slice_index}
use Rattle.points.specs.declared.point.Area.{Area}
use Rattle.points.specs.declared.point.Area.TheVariants.{Input, Output, Marker}
use Rattle.instructions.specs.declared.instruction.Operand.{Operand}
use Rattle.instructions.specs.declared.instruction.Operand.TheVariants.{True, At}

-- the area of a letter: I for an input, Q for an output, M for a marker
abbrev pub area_read : ℕ → Option Area
area_read l = cond (l == 73) (Some Input) (cond (l == 81) (Some Output) (cond (l == 77) (Some Marker) None))

-- a byte from one to another
abbrev pub within : ℕ → ℕ → ℕ → Bool
within low high b = nat_le low b && nat_le b high

-- a number 0 to 255 without leading zeros
abbrev pub number_read : List ℕ → Option ℕ
number_read [] = None
number_read (a ∷ []) = cond (within 48 57 a) (Some (a - 48)) None
number_read (a ∷ b ∷ []) = cond (within 49 57 a && within 48 57 b) (Some ((a - 48) * 10 + (b - 48))) None
number_read (a ∷ b ∷ c ∷ []) =
    cond (within 49 57 a && within 48 57 b && within 48 57 c && nat_le ((a - 48) * 100 + (b - 48) * 10 + (c - 48)) 255) (Some ((a - 48) * 100 + (b - 48) * 10 + (c - 48))) None
number_read (a ∷ b ∷ c ∷ d ∷ ds) = None

-- the point of an area and a number
abbrev pub point_read : Option Area → Option ℕ → Option Operand
point_read (Some a) (Some n) = Some (At (record { area = a; number = n }))
point_read (Some a) None = None
point_read None n = None

-- `TRUE`
abbrev pub is_true : List ℕ → Bool
is_true bs = slice_index bs 0 == 84 && slice_index bs 1 == 82 && slice_index bs 2 == 85 && slice_index bs 3 == 69 && length bs == 4

-- `%`, an area letter and a number
abbrev pub marked : List ℕ → Option Operand
marked bs = cond (slice_index bs 0 == 37 && nat_le 2 (length bs)) (point_read (area_read (slice_index bs 1)) (number_read (drop 2 bs))) None

-- the operand that a text says, if it says one
abbrev pub operand_read : List ℕ → Option Operand
operand_read bs = cond (is_true bs) (Some True) (marked bs)
