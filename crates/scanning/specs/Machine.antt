-- The words machine: what words make of the points, for any kind of signal.
use Rattle.std.specs.Prelude.{ℕ, List, [], ◌∷◌, Some, None, Option, slice_index_or, slice_set}
use Rattle.signals.specs.Kind.{Kind}
use Rattle.points.specs.declared.point.Point.{Point}
use Rattle.points.specs.Points.{index_of}
use Rattle.instructions.specs.declared.instruction.Operand.{Operand}
use Rattle.instructions.specs.declared.instruction.Operand.TheVariants.{True, At}
use Rattle.instructions.specs.declared.instruction.Instruction.{Instruction}
use Rattle.instructions.specs.declared.instruction.Instruction.TheVariants.{Load, LoadNot, And, AndNot, Or, OrNot, AndOpen, OrOpen, Close, Store, StoreNot, Set, Reset}
use Rattle.instructions.specs.Words.{instruction_of}
use Rattle.wiring.specs.declared.rung.Action.{Action}
use Rattle.wiring.specs.declared.rung.Action.TheVariants as action
use Rattle.scanning.specs.declared.joining.Joining.{Joining}
use Rattle.scanning.specs.declared.joining.Joining.TheVariants.{Series, Parallel}

-- the result, the results set aside with how each will be joined, that of the innermost bracket first, and the points
pub record Machine (S : Type 0) : Type 0 where
  pub result : S
  pub aside : List (S × Joining)
  pub points : List S

-- the machine with another result
abbrev pub with_result : {S : Type 0} → S → Machine S → Machine S
with_result r m = record { result = r; aside = m.aside; points = m.points }

-- the machine with other points
abbrev pub with_points : {S : Type 0} → List S → Machine S → Machine S
with_points points m = record { result = m.result; aside = m.aside; points = points }

-- the machine with its result set aside
abbrev pub set_aside : {S : Type 0} → Joining → Machine S → Machine S
set_aside j m = record { result = m.result; aside = (m.result, j) ∷ m.aside; points = m.points }

module _ {S : Type 0} (k : Kind S) where
  -- two signals joined, in this order
  abbrev pub joined : Joining → S → S → S
  joined Series x y = k.series x y
  joined Parallel x y = k.parallel x y

  -- the signal of a point, which is that at its index; a list that is too short has off there
  abbrev pub signal_at : List S → Point → S
  signal_at points p = slice_index_or points (index_of p) k.off

  -- the signal of an operand: `TRUE` is on
  abbrev pub signal_of : List S → Operand → S
  signal_of points True = k.on
  signal_of points (At p) = signal_at points p

  -- what a coil makes of its point's signal with the signal that it receives
  abbrev pub driven : Action → S → S → S
  driven action.Store point received = received
  driven action.StoreNot point received = k.inverse received
  driven action.Set point received = k.parallel point received
  driven action.Reset point received = k.series point (k.inverse received)

  -- the points after a coil: the one at its point's index is replaced
  abbrev pub coiled : Action → Point → S → List S → List S
  coiled a p received points = slice_set points (index_of p) (driven a (signal_at points p) received)

  -- the points after a coil instruction; `TRUE` is no point, and nothing is stored there
  abbrev pub coiled_onto : Action → Operand → S → List S → List S
  coiled_onto a True received points = points
  coiled_onto a (At p) received points = coiled a p received points

  -- a closing bracket joins the result set aside last, standing first, with the result; where none is set aside it does nothing
  abbrev pub rejoined : List (S × Joining) → Machine S → Machine S
  rejoined [] m = m
  rejoined ((first, j) ∷ aside) m = record { result = joined j first m.result; aside = aside; points = m.points }

  -- what an instruction does
  abbrev pub acts : Instruction → Machine S → Machine S
  acts (Load x) m = with_result (signal_of m.points x) m
  acts (LoadNot x) m = with_result (k.inverse (signal_of m.points x)) m
  acts (And x) m = with_result (k.series m.result (signal_of m.points x)) m
  acts (AndNot x) m = with_result (k.series m.result (k.inverse (signal_of m.points x))) m
  acts (Or x) m = with_result (k.parallel m.result (signal_of m.points x)) m
  acts (OrNot x) m = with_result (k.parallel m.result (k.inverse (signal_of m.points x))) m
  acts AndOpen m = set_aside Series m
  acts OrOpen m = set_aside Parallel m
  acts Close m = rejoined m.aside m
  acts (Store x) m = with_points (coiled_onto action.Store x m.result m.points) m
  acts (StoreNot x) m = with_points (coiled_onto action.StoreNot x m.result m.points) m
  acts (Set x) m = with_points (coiled_onto action.Set x m.result m.points) m
  acts (Reset x) m = with_points (coiled_onto action.Reset x m.result m.points) m

  -- a word that stands for no instruction does nothing
  abbrev pub acts_if : Option Instruction → Machine S → Machine S
  acts_if None m = m
  acts_if (Some i) m = acts i m

  -- the words one after the other
  abbrev pub runs : List ℕ → Machine S → Machine S
  runs [] m = m
  runs (w ∷ ws) m = runs ws (acts_if (instruction_of w) m)

  -- at the start of a scan the result is off and nothing is set aside
  abbrev pub fresh : List S → Machine S
  fresh points = record { result = k.off; aside = []; points = points }

  -- the points after a scan of the words
  abbrev pub scanned : List ℕ → List S → List S
  scanned words points = (runs words (fresh points)).points
