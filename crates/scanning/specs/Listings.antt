-- The words of circuits, and the points that words drive.
use Rattle.std.specs.Prelude.{◌≡◌, ℕ, ◌<◌, List, [], ◌∷◌, ◌++◌, Some, None, Option}
use Rattle.points.specs.Points.{index_of}
use Rattle.instructions.specs.declared.instruction.Operand.{Operand}
use Rattle.instructions.specs.declared.instruction.Operand.TheVariants.{True, At}
use Rattle.instructions.specs.declared.instruction.Instruction.{Instruction}
use Rattle.instructions.specs.declared.instruction.Instruction.TheVariants.{Load, LoadNot, And, AndNot, Or, OrNot, AndOpen, OrOpen, Close, Store, StoreNot, Set, Reset}
use Rattle.instructions.specs.Words.{instruction_of}
use Rattle.wiring.specs.declared.rung.Coil.{Coil}
use Rattle.wiring.specs.declared.rung.Contact.{Contact}
use Rattle.wiring.specs.declared.rung.Contact.TheVariants.{Wire, Open, Closed}
use Rattle.wiring.specs.declared.rung.Link.{Link}
use Rattle.wiring.specs.Circuit.{Circuit, Reads}
use Rattle.wiring.specs.Lists.{In}
use Rattle.wiring.specs.Wiring.{Wiring}
use Rattle.translation.specs.Spelling.{rung_words}

-- a contact's point has one of the 256 numbers of its area
abbrev pub Within : Contact → Type 0
Within Wire = Unit {0}
Within (Open p) = p.number < 256
Within (Closed p) = p.number < 256

-- every point of the circuit has one of the 256 numbers of its area, as every point of a card has
pub record Numbered (c : Circuit) : Type 0 where
  pub contacts : (l : Link) → In l c.links → Within l.contact
  pub coils : (x : Coil) → In x c.coils → x.point.number < 256

-- the words are the listing of the circuit as some wiring reads it
pub record Lists (c : Circuit) (words : List ℕ) : Type 0 where
  pub wiring : Wiring ℕ
  pub reads : Reads c wiring
  pub listing : words ≡ rung_words c wiring

-- the words are the listings of the circuits, one after the other
abbrev pub Listings : List Circuit → List ℕ → Type 0
Listings [] words = words ≡ []
Listings (c ∷ cs) words = (new : List ℕ) × (rest : List ℕ) × Lists c new × Numbered c × Listings cs rest × (words ≡ new ++ rest)

-- the index of the point that a coil drives; `TRUE` is no point
abbrev pub index_in : Operand → List ℕ
index_in True = []
index_in (At p) = index_of p ∷ []

-- what an instruction drives: only a coil drives a point
abbrev pub drives : Instruction → List ℕ
drives (Load x) = []
drives (LoadNot x) = []
drives (And x) = []
drives (AndNot x) = []
drives (Or x) = []
drives (OrNot x) = []
drives AndOpen = []
drives OrOpen = []
drives Close = []
drives (Store x) = index_in x
drives (StoreNot x) = index_in x
drives (Set x) = index_in x
drives (Reset x) = index_in x

abbrev pub drives_if : Option Instruction → List ℕ
drives_if None = []
drives_if (Some i) = drives i

-- the indices of the points that the coils of the words name
abbrev pub named : List ℕ → List ℕ
named [] = []
named (w ∷ ws) = drives_if (instruction_of w) ++ named ws
