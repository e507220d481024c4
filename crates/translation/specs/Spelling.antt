-- The listing of a rung: the text of its wiring, spelled with its contacts, and then its coils.
use Rattle.std.specs.Prelude.{ℕ, List, ◌++◌, map}
use Rattle.wiring.specs.declared.rung.Contact.{Contact}
use Rattle.wiring.specs.declared.rung.Contact.TheVariants.{Wire, Open, Closed}
use Rattle.wiring.specs.declared.rung.Action.{Action}
use Rattle.wiring.specs.declared.rung.Action.TheVariants as action
use Rattle.wiring.specs.declared.rung.Coil.{Coil}
use Rattle.wiring.specs.Circuit.{Circuit, link_at}
use Rattle.wiring.specs.Text.{Word, ld, and, or, and_open, or_open, close, link_text, text}
use Rattle.wiring.specs.Wiring.{Wiring}
use Rattle.instructions.specs.declared.instruction.Operand.{Operand}
use Rattle.instructions.specs.declared.instruction.Operand.TheVariants.{True, At}
use Rattle.instructions.specs.declared.instruction.Instruction.{Instruction}
use Rattle.instructions.specs.declared.instruction.Instruction.TheVariants.{Load, LoadNot, And, AndNot, Or, OrNot, AndOpen, OrOpen, Close, Store, StoreNot, Set, Reset}
use Rattle.instructions.specs.Words.{word_of}

-- for the contract of the spelling: what a contact becomes by an operation that takes a signal as it is, and by one that takes its inverse
abbrev pub Spells : (Operand → Instruction → Type 0) → (Operand → Instruction → Type 0) → Contact → Instruction → Type 0
Spells plain inverted Wire i = plain True i
Spells plain inverted (Open p) i = plain (At p) i
Spells plain inverted (Closed p) i = inverted (At p) i

-- a first contact: `LD`, or `LDN` if it is closed at rest; a wire has the operand `TRUE`
abbrev pub loading : Contact → Instruction
loading Wire = Load True
loading (Open p) = Load (At p)
loading (Closed p) = LoadNot (At p)

-- a later contact of a series
abbrev pub anding : Contact → Instruction
anding Wire = And True
anding (Open p) = And (At p)
anding (Closed p) = AndNot (At p)

-- a later contact of a branch group
abbrev pub oring : Contact → Instruction
oring Wire = Or True
oring (Open p) = Or (At p)
oring (Closed p) = OrNot (At p)

-- what a coil does, onto its point
abbrev pub acting : Action → Operand → Instruction
acting action.Store x = Store x
acting action.StoreNot x = StoreNot x
acting action.Set x = Set x
acting action.Reset x = Reset x

abbrev pub coiling : Coil → Instruction
coiling c = acting c.action (At c.point)

-- a word of the text, with the contact of its link
abbrev pub spelled : Circuit → Word → Instruction
spelled c (ld i) = loading (link_at c i).contact
spelled c (and i) = anding (link_at c i).contact
spelled c (or i) = oring (link_at c i).contact
spelled c and_open = AndOpen
spelled c or_open = OrOpen
spelled c close = Close

-- the 16-bit words of a text
abbrev pub spell : Circuit → List Word → List ℕ
spell c ws = map (λ w. word_of (spelled c w)) ws

abbrev pub coil_words : List Coil → List ℕ
coil_words cs = map (λ x. word_of (coiling x)) cs

-- the listing of a rung as its wiring reads it
abbrev pub rung_words : Circuit → Wiring ℕ → List ℕ
rung_words c w = spell c (text link_text w).first ++ coil_words c.coils
