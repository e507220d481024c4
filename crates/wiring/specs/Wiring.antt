-- A wiring: its parts joined in series and in branches, the joints that it runs between, and the paths through it.
use Rattle.std.specs.Prelude.{◌≡◌, ℕ, ◌≢◌, ◌⊎◌, List, [], ◌∷◌, ◌++◌}
use Rattle.wiring.specs.Lists.{In}

-- a single link, two parts one after the other, or two parts side by side
pub data Wiring (L : Type 0) : Type 0 where
  link : L → Wiring L
  series : Wiring L → Wiring L → Wiring L
  parallel : Wiring L → Wiring L → Wiring L

-- its links from left to right
abbrev pub leaves : {L : Type 0} → Wiring L → List L
leaves (link e) = e ∷ []
leaves (series a b) = leaves a ++ leaves b
leaves (parallel a b) = leaves a ++ leaves b

-- p with each of some ways behind it
abbrev pub each : {L : Type 0} → List L → List (List L) → List (List L)
each p [] = []
each p (q ∷ qs) = (p ++ q) ∷ each p qs

-- each of some ways with each of some others behind it
abbrev pub every : {L : Type 0} → List (List L) → List (List L) → List (List L)
every [] qs = []
every (p ∷ ps) qs = each p qs ++ every ps qs

-- the ways through a wiring: through both parts of a series, and through one branch or the other
abbrev pub paths : {L : Type 0} → Wiring L → List (List L)
paths (link e) = (e ∷ []) ∷ []
paths (series a b) = every (paths a) (paths b)
paths (parallel a b) = paths a ++ paths b

-- given for each link the joint that it comes from and the joint that it goes to
module _ {L : Type 0} (ends : L → ℕ × ℕ) where
  -- one of the links touches the joint y
  abbrev pub Joint : ℕ → List L → Type 0
  Joint y l = (e : L) × In e l × (((ends e).0 ≡ y) ⊎ ((ends e).1 ≡ y))

  -- the wiring runs from joint s to joint t: a series shares only its middle joint, branches share only s and t
  abbrev pub Runs : Wiring L → ℕ → ℕ → Type 0
  Runs (link e) s t = ((ends e).0 ≡ s) × ((ends e).1 ≡ t) × (s ≢ t)
  Runs (series a b) s t = (m : ℕ) × Runs a s m × Runs b m t × ((y : ℕ) → Joint y (leaves a) → Joint y (leaves b) → y ≡ m)
  Runs (parallel a b) s t = Runs a s t × Runs b s t × ((y : ℕ) → Joint y (leaves a) → Joint y (leaves b) → (y ≡ s) ⊎ (y ≡ t))
