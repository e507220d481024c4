-- The numbers of the refusals of words.
use Rattle.std.specs.Prelude.{ℕ}
use Rattle.programs.specs.declared.fault.RuleFault.{RuleFault}
use Rattle.programs.specs.declared.fault.RuleFault.TheVariants.{NotAllowed, TooDeep, TooManyRungs, TooLong, Unfinished}

-- the number of a refusal
abbrev pub rule_number : RuleFault → ℕ
rule_number NotAllowed = 13
rule_number TooDeep = 10
rule_number TooManyRungs = 5
rule_number TooLong = 11
rule_number Unfinished = 14
