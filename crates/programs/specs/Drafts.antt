-- What a draft holds, and what becomes of it.
use Rattle.std.specs.Prelude.{◌≡◌, ℕ, List, [], ◌∷◌, ◌++◌, Ok, Err, Result}
use Rattle.instructions.specs.Stores.{stored}
use Rattle.programs.specs.declared.draft.Draft.{Draft}
use Rattle.programs.specs.declared.fault.RuleFault.{RuleFault}
use Rattle.programs.specs.Rules.{Place, onward}
use Rattle.programs.specs.Places.{place_of}

-- the words of a draft
abbrev pub drafted : Draft → List ℕ
drafted d = stored d.words

-- where a draft stands
abbrev pub standing : Draft → Place
standing d = place_of d.checker

-- a word came behind the words of a draft, or the rules refuse it and nothing is altered
abbrev pub Added : {U : Type 0} → Draft → ℕ → Result U RuleFault → Draft → Type 0
Added before word (Ok u) after = (onward (Ok (standing before)) word ≡ Ok (standing after)) × (drafted after ≡ drafted before ++ word ∷ [])
Added before word (Err e) after = (onward (Ok (standing before)) word ≡ Err e) × (after ≡ before)
