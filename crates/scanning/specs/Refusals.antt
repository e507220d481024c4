-- What a scan that is refused is refused for, and what a scan keeps.
use Rattle.std.specs.Prelude.{◌≡◌, ℕ, List}
use Rattle.std.specs.List.{slice_get}
use Rattle.wiring.specs.Lists.{In}
use Rattle.scanning.specs.declared.fault.ScanFault.{ScanFault}
use Rattle.scanning.specs.declared.fault.ScanFault.TheVariants.{FewSignals}

-- the number of a scan's refusal
abbrev pub scan_number : ScanFault → ℕ
scan_number FewSignals = 2

-- every point that is not among the named ones holds what it held
abbrev pub KeptUnnamed : {S : Type 0} → List ℕ → List S → List S → Type 0
KeptUnnamed indices before after = (i : ℕ) → (In i indices → ⊥) → slice_get after i ≡ slice_get before i
