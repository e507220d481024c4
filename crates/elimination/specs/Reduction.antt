-- How far the elimination has come: this file serves the recognition's own contracts, and is not part of what a reader must believe.
use Rattle.std.specs.Prelude.{◌≡◌, ℕ, suc, ◌+◌, ◌-◌, ◌<◌, ◌≤◌, Bool, true, false, ◌⊎◌, List, [], ◌∷◌, length, Some, None, Option, slice_index_or}
use Rattle.wiring.specs.Circuit.{Circuit, Reads}
use Rattle.wiring.specs.declared.rung.Link.{Link}
use Rattle.wiring.specs.Elimination.{Edge, Step, Reaches, Starts, InRange, first-edges}
use Rattle.wiring.specs.Lists.{In}
use Rattle.wiring.specs.Wiring.{Wiring}
use Rattle.elimination.specs.declared.groups.Passage.{Passage}
use Rattle.elimination.specs.declared.slots.Active.{Active}
use Rattle.elimination.specs.declared.slots.Side.TheVariants.{Entering, Leaving}
use Rattle.elimination.specs.declared.table.Node.{Node}
use Rattle.elimination.specs.Slots.{edges, live, far_ends, only_of, straight, Stands}

-- the way through a joint, if one joint is before it and one behind it
abbrev pub passage_of : ℕ → Option ℕ → Option ℕ → Option Passage
passage_of x None b = None
passage_of x (Some u) None = None
passage_of x (Some u) (Some w) = Some (record { joint = x; from = u; to = w })

-- the joint x, if it is not gone and can be eliminated
abbrev pub candidate_of : Bool → ℕ → List (Option Active) → Option Passage
candidate_of true x l = None
candidate_of false x l = passage_of x (only_of (far_ends Entering x l)) (only_of (far_ends Leaving x l))

-- an inner joint that is not gone and can be eliminated, or that there is none
abbrev pub Picked : ℕ → List Bool → List (Option Active) → Option Passage → Type 0
Picked joints gone l None = (x : ℕ) → 0 < x → x + 1 < joints → candidate_of (slice_index_or gone x false) x l ≡ None
Picked joints gone l (Some p) = (0 < p.joint) × (p.joint + 1 < joints) × (candidate_of (slice_index_or gone p.joint false) p.joint l ≡ Some p)

-- how many joints are not gone
abbrev pub left_of : List Bool → ℕ
left_of [] = 0
left_of (true ∷ l) = left_of l
left_of (false ∷ l) = suc (left_of l)

-- the first i links stand in their slots
pub record Placed (i : ℕ) (links : List Link) (l : List (Option Active)) (ns : List Node) : Type 0 where
  pub edges_are : (c : Circuit) → c.links ≡ links → edges ns l ≡ first-edges c i
  pub stands : Stands ns l
  pub len_is : length ns ≡ i
  pub live-is : live l ≡ i
  pub rest : (k : ℕ) → i ≤ k → slice_index_or l k None ≡ None
  pub long : length l ≡ 64

-- the joint x has been eliminated
pub record Eliminated (x u w : ℕ) (l : List (Option Active)) (ns : List Node) (l' : List (Option Active)) (ns' : List Node) : Type 0 where
  pub step : Step (edges ns l) x u w (edges ns' l')
  pub stands : Stands ns' l'
  pub room : length ns' + live l' ≡ length ns + live l

-- joints have been eliminated from the edges A, and are marked; nodes and edges are total in number throughout
pub record Work (joints total : ℕ) (A : List Edge) (l : List (Option Active)) (ns : List Node) (gone : List Bool) : Type 0 where
  pub xs : List ℕ
  pub reached : Reaches 0 (joints - 1) A xs (edges ns l)
  pub stands : Stands ns l
  pub room : length ns + live l ≡ total
  pub marked : (y : ℕ) → slice_index_or gone y false ≡ true → In y xs
  pub only : (y : ℕ) → In y xs → slice_index_or gone y false ≡ true
  pub long : length gone ≡ 32

-- every inner joint has been eliminated, and all edges go from joint 0 to the coil joint
pub record Reduced (joints total : ℕ) (A : List Edge) (l : List (Option Active)) (ns : List Node) : Type 0 where
  pub xs : List ℕ
  pub reached : Reaches 0 (joints - 1) A xs (edges ns l)
  pub stands : Stands ns l
  pub room : length ns + live l ≡ total
  pub all : (y : ℕ) → y < joints → (y ≡ 0) ⊎ ((y ≡ joints - 1) ⊎ In y xs)
  pub direct : straight (joints - 1) l ≡ true

-- no wiring reads a circuit whose links are the edges A
abbrev pub NoReading : ℕ → List Edge → Type 0
NoReading joints A = (c : Circuit) → c.joints ≡ joints → InRange c → Starts c A → (w : Wiring ℕ) → Reads c w → ⊥

-- how the elimination ends
abbrev pub Outcome : ℕ → ℕ → List Edge → List (Option Active) → List Node → Bool → Type 0
Outcome joints total A l ns true = Reduced joints total A l ns
Outcome joints total A l ns false = NoReading joints A
