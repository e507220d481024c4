-- What a program holds, and which words become one.
use Rattle.std.specs.Prelude.{◌≡◌, ℕ, List, Ok, Err, Result}
use Rattle.instructions.specs.Stores.{stored}
use Rattle.programs.specs.declared.program.Program.{Program}
use Rattle.programs.specs.declared.fault.RuleFault.{RuleFault}

-- the words of a program
abbrev pub held : Program → List ℕ
held p = stored p.words

-- words that the verdict accepts become a program; others are refused for the rule that they break
abbrev pub Taken : List ℕ → Result Unit RuleFault → Result Program RuleFault → Type 0
Taken words verdict (Ok p) = (verdict ≡ Ok tt) × (held p ≡ words)
Taken words verdict (Err e) = verdict ≡ Err e

-- words took the place of a program; a refusal alters nothing
abbrev pub Replaced : {V : Type 0} → Program → List ℕ → Result Unit RuleFault → Result V RuleFault → Program → Type 0
Replaced before words verdict (Ok v) after = (verdict ≡ Ok tt) × (held after ≡ words)
Replaced before words verdict (Err e) after = (verdict ≡ Err e) × (after ≡ before)
