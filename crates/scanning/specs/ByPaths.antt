-- The scan by paths: what each rung's coils receive, and what they make of the points.
use Rattle.std.specs.Prelude.{◌≡◌, ℕ, List, [], ◌∷◌}
use Rattle.signals.specs.Kind.{Kind}
use Rattle.wiring.specs.declared.rung.Coil.{Coil}
use Rattle.wiring.specs.declared.rung.Contact.{Contact}
use Rattle.wiring.specs.declared.rung.Contact.TheVariants.{Wire, Open, Closed}
use Rattle.wiring.specs.Circuit.{Circuit, link_at}
use Rattle.wiring.specs.Paths.{AllPaths}
use Rattle.wiring.specs.Value.{over_all}
use Rattle.scanning.specs.Machine.{signal_at, coiled}

module _ {S : Type 0} (k : Kind S) where
  -- a wire's signal is on; a contact open at rest passes its point's signal, one closed at rest the inverse
  abbrev pub passed : List S → Contact → S
  passed points Wire = k.on
  passed points (Open p) = signal_at k points p
  passed points (Closed p) = k.inverse (signal_at k points p)

  -- the signal of link number i
  abbrev pub link_signal : List S → Circuit → ℕ → S
  link_signal points c i = passed points (link_at c i).contact

  -- r is the parallel joining over all paths of the circuit, every path once, of the series joining along each
  pub record Received (points : List S) (c : Circuit) (r : S) : Type 0 where
    pub ways : List (List ℕ)
    pub all : AllPaths c ways
    pub joining : r ≡ over_all k (link_signal points c) ways

  -- the coils in turn, each with the one signal that all receive, onto its point as it stands then
  abbrev pub all-coiled : List Coil → S → List S → List S
  all-coiled [] r points = points
  all-coiled (x ∷ xs) r points = all-coiled xs r (coiled k x.action x.point r points)

  -- the rungs from the top: contacts are read from the points as the rung begins, and then its coils act
  abbrev pub ByPaths : List Circuit → List S → List S → Type 0
  ByPaths [] points after = after ≡ points
  ByPaths (c ∷ cs) points after = (r : S) × Received points c r × ByPaths cs (all-coiled c.coils r points) after
