-- The theorems about circuits and their wirings.
use Rattle.std.specs.Prelude.{◌≡◌, ℕ, ◌↔◌, List}
use Rattle.signals.specs.Kind.{Kind, Laws}
use Rattle.wiring.specs.Circuit.{Circuit, Reads, SeriesParallel}
use Rattle.wiring.specs.Lists.{In}
use Rattle.wiring.specs.Paths.{AllPaths}
use Rattle.wiring.specs.Text.{link_text, text}
use Rattle.wiring.specs.Value.{value, over_all, TwoSignals}
use Rattle.wiring.specs.Wiring.{Wiring, paths}
use Rattle.wiring.specs.Worked.{detour, detour_wiring, detour-text, bridge}

-- any two wirings that read a circuit have the same text
abbrev pub OneText : Type 0
OneText = (c : Circuit) (w w' : Wiring ℕ) → Reads c w → Reads c w' → text link_text w ≡ text link_text w'

-- the ways through a wiring that reads a circuit are all the paths of the circuit, each once
abbrev pub PathsStand : Type 0
PathsStand = (c : Circuit) (w : Wiring ℕ) → Reads c w → AllPaths c (paths w)

-- for every kind that keeps the laws, a wiring passes on the parallel joining over its paths of the series joining along each
abbrev pub ValueStands : Type 0 → Type 0
ValueStands S = (k : Kind S) → Laws k → (v : ℕ → S) (w : Wiring ℕ) → value k v w ≡ over_all k v (paths w)

-- and the joining over all paths of a circuit is the same however they are listed
abbrev pub OneJoining : Type 0 → Type 0
OneJoining S = (k : Kind S) → Laws k → (v : ℕ → S) (c : Circuit) (ps qs : List (List ℕ)) → AllPaths c ps → AllPaths c qs → over_all k v ps ≡ over_all k v qs

-- with two signals that joining is on exactly if some path has every link on
abbrev pub OnByAPath : Type 0 → Type 0
OnByAPath S =
    (k : Kind S) → Laws k → TwoSignals k → (v : ℕ → S) (ps : List (List ℕ)) →
    (over_all k v ps ≡ k.on) ↔ ((p : List ℕ) × In p ps × ((i : ℕ) → In i p → v i ≡ k.on))

-- what the definitions make of the two worked circuits
pub record WorkedCircuits : Type 0 where
  pub detour_reads : Reads detour detour_wiring
  pub detour-listed : (text link_text detour_wiring).first ≡ detour-text
  pub bridge_refused : SeriesParallel bridge → ⊥
