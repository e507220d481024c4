-- The numbers of a card's faults.
use Rattle.std.specs.Prelude.{ℕ}
use Rattle.cards.specs.declared.fault.CardCause.{CardCause}
use Rattle.cards.specs.declared.fault.CardCause.TheVariants.{EndsEarly, Padding, TooManyRungs, Counts, LinkField, CoilField}

abbrev pub cause_number : CardCause → ℕ
cause_number EndsEarly = 3
cause_number Padding = 4
cause_number TooManyRungs = 5
cause_number Counts = 6
cause_number LinkField = 7
cause_number CoilField = 8
