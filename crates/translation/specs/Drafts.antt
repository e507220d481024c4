-- For the contracts of the emitters: the words drafted so far, and the text of a part by its place.
use Rattle.std.specs.Prelude.{◌≡◌, ℕ, ◌+◌, ◌≤◌, List, [], ◌∷◌, ◌++◌, length}
use Rattle.rows.specs.Rows.{parts_of}
use Rattle.wiring.specs.declared.rung.Contact.{Contact}
use Rattle.wiring.specs.Circuit.{Circuit, circuit}
use Rattle.wiring.specs.Text.{Word, Text, link_text, text}
use Rattle.wiring.specs.Wiring.{Wiring}
use Rattle.elimination.specs.Trees.{tree_at}
use Rattle.instructions.specs.declared.instruction.Instruction.{Instruction}
use Rattle.instructions.specs.Words.{word_of}
use Rattle.translation.specs.Spelling.{loading, anding, oring, spell, coil_words}
use Rattle.translation.specs.declared.emitters.Emitter.{Emitter}
use Rattle.translation.specs.declared.emitters.Place.{Place}
use Rattle.translation.specs.declared.emitters.Place.TheVariants.{First, Later}

-- the text of a part of a series
abbrev pub series_text : Place → Text → List Word
series_text First t = t.first
series_text Later t = t.later_and

-- the text of a part of a branch group
abbrev pub branches_text : Place → Text → List Word
branches_text First t = t.first
branches_text Later t = t.later_or

-- the words of a part of a series
abbrev pub series_words : Circuit → Place → Wiring ℕ → List ℕ
series_words c place w = spell c (series_text place (text link_text w))

-- the words of a part of a branch group
abbrev pub branch_words : Circuit → Place → Wiring ℕ → List ℕ
branch_words c place w = spell c (branches_text place (text link_text w))

-- the words of the part at a position of the emitter's table, as a part of a series and as a part of a branch group
abbrev pub series_at : Emitter → Place → ℕ → List ℕ
series_at e place at = series_words (circuit e.rung.now) place (tree_at (parts_of e.table.now.nodes) at)

abbrev pub branches_at : Emitter → Place → ℕ → List ℕ
branches_at e place at = branch_words (circuit e.rung.now) place (tree_at (parts_of e.table.now.nodes) at)

-- the words of the coils
abbrev pub coils_at : Emitter → List ℕ
coils_at e = coil_words (circuit e.rung.now).coils

-- how a contact reads: first as a load, and later as the given relation says
abbrev pub ReadsAt : Place → (Contact → Instruction → Type 0) → Contact → Instruction → Type 0
ReadsAt First later x i = i ≡ loading x
ReadsAt Later later x i = later x i

-- how a contact reads in a series, and in a branch group
abbrev pub series_contact : Place → Contact → Instruction
series_contact First x = loading x
series_contact Later x = anding x

abbrev pub branch_contact : Place → Contact → Instruction
branch_contact First x = loading x
branch_contact Later x = oring x

-- the word of a bracket, which only a later part has
abbrev pub bracketed : Place → Instruction → List ℕ
bracketed First i = []
bracketed Later i = word_of i ∷ []

-- there is room in the draft for so many words more
pub record Room (before : Emitter) (words : List ℕ) : Type 0 where
  pub fits : length before.draft.items + length words ≤ 200

-- words have been added to the draft
pub record Adds (before : Emitter) (words : List ℕ) (after : Emitter) : Type 0 where
  pub is : after.draft.items ≡ before.draft.items ++ words
  pub rung : after.rung ≡ before.rung
  pub table : after.table ≡ before.table
