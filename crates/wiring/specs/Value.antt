-- The signal that a wiring passes on, and the joinings along a path and over paths, for any kind of signal.
use Rattle.std.specs.Prelude.{◌≡◌, ◌⊎◌, List, [], ◌∷◌}
use Rattle.signals.specs.Kind.{Kind}
use Rattle.wiring.specs.Wiring.{Wiring, link, series, parallel}

-- given the signal of each link
module _ {S L : Type 0} (k : Kind S) (v : L → S) where
  -- the signal of a wiring, part by part
  abbrev pub value : Wiring L → S
  value (link e) = v e
  value (series a b) = k.series (value a) (value b)
  value (parallel a b) = k.parallel (value a) (value b)

  -- the series joining along a path
  abbrev pub along : List L → S
  along [] = k.on
  along (e ∷ p) = k.series (v e) (along p)

  -- the parallel joining over paths of the series joining along each
  abbrev pub over_all : List (List L) → S
  over_all [] = k.off
  over_all (p ∷ ps) = k.parallel (along p) (over_all ps)

-- a kind with no signals but on and off, whose parallel joining of on and on is on
pub record TwoSignals {S : Type 0} (k : Kind S) : Type 0 where
  pub either : (x : S) → (x ≡ k.on) ⊎ (x ≡ k.off)
  pub both_on : k.parallel k.on k.on ≡ k.on
