-- The numbers, rungs and places of a ladder's faults.
use Rattle.std.specs.Prelude.{ℕ}
use Rattle.cards.specs.Faults.{cause_number}
use Rattle.translation.specs.declared.rung_fault.RungFault.{RungFault}
use Rattle.translation.specs.declared.rung_fault.RungFault.TheVariants.{NotSeriesParallel, TooDeep, TooLong}
use Rattle.translation.specs.declared.ladder_fault.LadderFault.{LadderFault}
use Rattle.translation.specs.declared.ladder_fault.LadderFault.TheVariants.{Card, Rung}

abbrev pub rung_number : RungFault → ℕ
rung_number NotSeriesParallel = 9
rung_number TooDeep = 10
rung_number TooLong = 11

-- the number under which a card is refused
abbrev pub ladder_number : LadderFault → ℕ
ladder_number (Card met) = cause_number met.fault.cause
ladder_number (Rung met) = rung_number met.fault

-- the rung in which the fault was met
abbrev pub ladder_rung : LadderFault → ℕ
ladder_rung (Card met) = met.rung
ladder_rung (Rung met) = met.rung

-- the bit at which the fault stands
abbrev pub ladder_bit : LadderFault → ℕ
ladder_bit (Card met) = met.fault.bit
ladder_bit (Rung met) = met.bit
