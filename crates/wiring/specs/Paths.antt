-- The paths of a circuit, as lists of link numbers.
use Rattle.std.specs.Prelude.{◌≡◌, ℕ, ◌<◌, ◌↔◌, List, [], ◌∷◌, length}
use Rattle.wiring.specs.Circuit.{Circuit, coil_joint, ends}
use Rattle.wiring.specs.Lists.{In, Distinct}

-- given where each link comes from and goes to: p starts at s, each link goes on where the last one ended, and the last ends at t
abbrev pub Walk : {L : Type 0} → (L → ℕ × ℕ) → ℕ → List L → ℕ → Type 0
Walk f s [] t = s ≡ t
Walk f s (e ∷ p) t = ((f e).0 ≡ s) × Walk f (f e).1 p t

-- p leads along links of the circuit from the left rail to the coil joint
pub record Path (c : Circuit) (p : List ℕ) : Type 0 where
  pub walk : Walk (ends c) 0 p (coil_joint c)
  pub within : (i : ℕ) → In i p → i < length c.links

-- ps are all the paths of the circuit, each once
pub record AllPaths (c : Circuit) (ps : List (List ℕ)) : Type 0 where
  pub once : Distinct ps
  pub are : (p : List ℕ) → In p ps ↔ Path c p
