-- The number and the place of the refusal of a listing.
use Rattle.std.specs.Prelude.{ℕ}
use Rattle.programs.specs.Faults.{rule_number}
use Rattle.listings.specs.declared.fault.Cause.{Cause}
use Rattle.listings.specs.declared.fault.Cause.TheVariants.{NotALine, Broken}
use Rattle.listings.specs.declared.fault.ListingFault.{ListingFault}

-- the number of a cause
abbrev pub cause_number : Cause → ℕ
cause_number NotALine = 12
cause_number (Broken f) = rule_number f

-- the number of a refusal
abbrev pub fault_number : ListingFault → ℕ
fault_number f = cause_number f.cause

-- the byte at which the refused line starts, or the length
abbrev pub fault_byte : ListingFault → ℕ
fault_byte f = f.byte

-- the refused line, counted from 0, or the count of lines
abbrev pub fault_line : ListingFault → ℕ
fault_line f = f.line
