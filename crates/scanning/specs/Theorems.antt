-- The theorems about scans.
use Rattle.std.specs.Prelude.{◌≡◌, ℕ, ◌↔◌, List}
use Rattle.std.specs.List.{slice_get}
use Rattle.signals.specs.Kind.{Kind, Laws}
use Rattle.signals.specs.Kinds.{plain}
use Rattle.wiring.specs.Circuit.{Circuit}
use Rattle.wiring.specs.Lists.{In}
use Rattle.wiring.specs.Paths.{Path}
use Rattle.wiring.specs.Value.{TwoSignals}
use Rattle.scanning.specs.ByPaths.{link_signal, Received, ByPaths}
use Rattle.scanning.specs.Listings.{Listings, named}
use Rattle.scanning.specs.Machine.{scanned}

-- for every kind with the laws and all points, a scan of the listings of circuits leaves what the scan by paths leaves
abbrev pub ScansAgree : Type 0 → Type 0
ScansAgree S = (k : Kind S) → Laws k → (cs : List Circuit) (words : List ℕ) (points : List S) → Listings cs words → ByPaths k cs points (scanned k words points)

-- and the scan by paths leaves only that
abbrev pub OneOutcome : Type 0 → Type 0
OneOutcome S = (k : Kind S) → Laws k → (cs : List Circuit) (points after after' : List S) → ByPaths k cs points after → ByPaths k cs points after' → after ≡ after'

-- in a kind of two signals whose parallel joining of on and on is on, coils receive on exactly if some path has every link on
abbrev pub OnByAPath : Type 0 → Type 0
OnByAPath S =
    (k : Kind S) → Laws k → TwoSignals k → (points : List S) (c : Circuit) (r : S) → Received k points c r →
    (r ≡ k.on) ↔ ((p : List ℕ) × Path c p × ((i : ℕ) → In i p → link_signal k points c i ≡ k.on))

-- the plain kind is such a kind
abbrev pub PlainIsTwo : Type 0
PlainIsTwo = TwoSignals plain

-- every point that no coil of the words names holds what it held
abbrev pub UnnamedStay : Type 0 → Type 0
UnnamedStay S = (k : Kind S) (words : List ℕ) (points : List S) (i : ℕ) → (In i (named words) → ⊥) → slice_get (scanned k words points) i ≡ slice_get points i
