-- For the engine's own contracts: the machine that it stands for with the points, and whether brackets fit.
use Rattle.std.specs.Prelude.{ℕ, Bool, true, ◌&&◌, List, [], ◌∷◌, Some, None, Option, nat_lt, reverse}
use Rattle.std.specs.List.{zip}
use Rattle.instructions.specs.declared.instruction.Instruction.{Instruction}
use Rattle.instructions.specs.declared.instruction.Instruction.TheVariants.{Load, LoadNot, And, AndNot, Or, OrNot, AndOpen, OrOpen, Close, Store, StoreNot, Set, Reset}
use Rattle.instructions.specs.Depth.{opened_if}
use Rattle.instructions.specs.Words.{instruction_of}
use Rattle.scanning.specs.declared.brackets.Brackets.{Brackets}
use Rattle.scanning.specs.declared.engine.Engine.{Engine}
use Rattle.scanning.specs.declared.joining.Joining.{Joining}
use Rattle.scanning.specs.Machine.{Machine}

-- what open brackets have set aside, each with how it will be joined, that of the innermost bracket first
abbrev pub pile : {S : Type 0} → Brackets S → List (S × Joining)
pile b = reverse (zip b.aside.now b.joinings.items)

-- the machine that an engine and points stand for
abbrev pub standing : {B S : Type 0} → Engine B S → List S → Machine S
standing e points = record { result = e.result; aside = pile e.brackets.now; points = points }

-- whether an instruction may come with so many brackets open: a sixteenth is not opened, and one that closes is open
abbrev pub roomy : ℕ → Instruction → Bool
roomy n (Load x) = true
roomy n (LoadNot x) = true
roomy n (And x) = true
roomy n (AndNot x) = true
roomy n (Or x) = true
roomy n (OrNot x) = true
roomy n AndOpen = nat_lt n 15
roomy n OrOpen = nat_lt n 15
roomy n Close = nat_lt 0 n
roomy n (Store x) = true
roomy n (StoreNot x) = true
roomy n (Set x) = true
roomy n (Reset x) = true

abbrev pub roomy_if : ℕ → Option Instruction → Bool
roomy_if n None = true
roomy_if n (Some i) = roomy n i

-- whether the words may come, one after the other, with so many brackets open
abbrev pub fitting : ℕ → List ℕ → Bool
fitting n [] = true
fitting n (w ∷ ws) = roomy_if n (instruction_of w) && fitting (opened_if n (instruction_of w)) ws
