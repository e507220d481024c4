-- The numbers of refusals, and when arranging a layer is refused.
use Rattle.std.specs.Prelude.{ℕ, Bool, true, false, Ok, Err, Result}
use Rattle.banks.specs.declared.refusal.Refusal.{Refusal}
use Rattle.banks.specs.declared.refusal.Refusal.TheVariants.{NoSuchInput}

abbrev pub refusal_number : Refusal → ℕ
refusal_number NoSuchInput = 15

-- the answer to a call, by whether each number that it names is an input
abbrev pub answered : Bool → Result (Unit {0}) Refusal
answered true = Ok tt
answered false = Err NoSuchInput
