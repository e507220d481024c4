-- What a scan never does.
use Rattle.std.specs.Prelude.{◌≡◌, ℕ, List, [], ◌∷◌, Some, slice_set}
use Rattle.std.specs.List.{slice_get}
use Rattle.signals.specs.Kind.{Kind, Laws}
use Rattle.signals.specs.Kinds.{plain}
use Rattle.signals.specs.declared.plain.Plain.{Plain}
use Rattle.signals.specs.declared.plain.Plain.TheVariants.{On}
use Rattle.points.specs.declared.point.Area.TheVariants.{Output, Marker}
use Rattle.points.specs.declared.point.Point.{Point}
use Rattle.points.specs.Points.{index_of}
use Rattle.instructions.specs.declared.instruction.Operand.{Operand}
use Rattle.instructions.specs.declared.instruction.Operand.TheVariants.{At}
use Rattle.instructions.specs.declared.instruction.Instruction.TheVariants as instruction
use Rattle.instructions.specs.Words.{word_of}
use Rattle.wiring.specs.declared.rung.Action.TheVariants.{Store}
use Rattle.wiring.specs.declared.rung.Contact.TheVariants.{Closed}
use Rattle.wiring.specs.Circuit.{Circuit}
use Rattle.scanning.specs.ByPaths.{ByPaths}
use Rattle.scanning.specs.Machine.{Machine, signal_at, acts, scanned}

-- marker 0 and output 0
abbrev pub marker : Point
marker = record { area = Marker; number = 0 }

abbrev pub output : Point
output = record { area = Output; number = 0 }

-- a rung whose one contact, closed at rest, reads the marker that its first coil stores to; its second coil stores to the output
abbrev pub self_feeding : Circuit
self_feeding = record {
  joints = 2;
  links = record { from = 0; to = 1; contact = Closed marker } ∷ [];
  coils = record { action = Store; point = marker } ∷ (record { action = Store; point = output } ∷ []);
}

-- its listing: `LDN %M0`, `ST %M0`, `ST %Q0`
abbrev pub self_feeding_words : List ℕ
self_feeding_words = word_of (instruction.LoadNot (At marker)) ∷ (word_of (instruction.Store (At marker)) ∷ (word_of (instruction.Store (At output)) ∷ []))

-- the points with the same signal, the inverse of what the marker held as the rung began, behind both coils
abbrev pub both_fed : {S : Type 0} → Kind S → List S → List S
both_fed k points = slice_set (slice_set points (index_of marker) (k.inverse (signal_at k points marker))) (index_of output) (k.inverse (signal_at k points marker))

-- a coil that alters a contact of its own rung before the next coil is fed: by words and by paths both coils receive the same
pub record FedAlike (S : Type 0) : Type 0 where
  pub by_words : (k : Kind S) (points : List S) → scanned k self_feeding_words points ≡ both_fed k points
  pub by_paths : (k : Kind S) → Laws k → (points after : List S) → ByPaths k (self_feeding ∷ []) points after → after ≡ both_fed k points

-- a plain `S` that turns a point off: every point that is on stays on
abbrev pub SetKeepsOn : Type 0
SetKeepsOn = (m : Machine Plain) (x : Operand) (i : ℕ) → slice_get m.points i ≡ Some On → slice_get (acts plain (instruction.Set x) m).points i ≡ Some On
