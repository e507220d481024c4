-- Branch groups in the table: this file serves the recognition's own contracts, and is not part of what a reader must believe.
use Rattle.std.specs.Prelude.{◌≡◌, ℕ, ◌+◌, ◌<◌, ◌≤◌, List, [], ◌∷◌, map, Some, None, Option, length}
use Rattle.wiring.specs.Elimination.{Edge, group_tree}
use Rattle.wiring.specs.Wiring.{series, parallel}
use Rattle.elimination.specs.declared.groups.Group.{Group}
use Rattle.elimination.specs.declared.slots.Active.{Active}
use Rattle.elimination.specs.declared.slots.Side.TheVariants.{Entering, Leaving}
use Rattle.elimination.specs.declared.table.Node.{Node}
use Rattle.elimination.specs.Slots.{edges, live, touch, low_at}
use Rattle.elimination.specs.Trees.{tree_at}

-- the table has grown, and holds what it held
pub record Grown (ns ns' : List Node) : Type 0 where
  pub more : length ns ≤ length ns'
  pub same : (i : ℕ) → i < length ns → tree_at ns' i ≡ tree_at ns i

-- the slot's wiring, if any, stands in the table
abbrev pub Sits : ℕ → Option Active → Type 0
Sits len None = Unit {0}
Sits len (Some a) = a.at < len

-- the group, if any, stands in the table
abbrev pub SitsGroup : ℕ → Option Group → Type 0
SitsGroup len None = Unit {0}
SitsGroup len (Some h) = h.at < len

-- a slot and a group to join leave room for a node
abbrev pub Room : ℕ → Option Active → Option Group → Type 0
Room len None g = Unit {0}
Room len (Some a) None = Unit {0}
Room len (Some a) (Some h) = len < 127

-- a group counts as one edge
abbrev pub size : Option Group → ℕ
size None = 0
size (Some h) = 1

-- what slot i makes of the group of the slots above it
abbrev pub Extends : (i : ℕ) (ns ns' : List Node) → Option Active → Option Group → Option Group → Type 0
Extends i ns ns' None g r = (r ≡ g) × (length ns' ≡ length ns)
Extends i ns ns' (Some a) None r = (r ≡ Some (record { at = a.at; low = i })) × (length ns' ≡ length ns)
Extends i ns ns' (Some a) (Some h) r = (r ≡ Some (record { at = length ns; low = i })) × (length ns' ≡ length ns + 1) × (tree_at ns' (length ns) ≡ parallel (tree_at ns a.at) (tree_at ns h.at))

-- r is the branch group of the edges L, whose lowest link is j or above
abbrev pub Holds : ℕ → List Node → List Edge → Option Group → Type 0
Holds j ns [] None = Unit {0}
Holds j ns [] (Some h) = ⊥
Holds j ns (e ∷ L) None = ⊥
Holds j ns (e ∷ L) (Some h) = (h.at < length ns) × (tree_at ns h.at ≡ group_tree (e ∷ L)) × (low_at ns h.at ≡ h.low) × (j ≤ h.low) × (h.low < 64)

-- the branch group of the filled slots l has been added to the table
pub record Gathered (j : ℕ) (l : List (Option Active)) (ns ns' : List Node) (r : Option Group) : Type 0 where
  pub grown : Grown ns ns'
  pub room : length ns' + size r ≡ length ns + live l
  pub group : Holds j ns' (edges ns l) r

-- the group into the joint x in series with the group out of it has been added to the table
pub record Merged (x : ℕ) (l : List (Option Active)) (ns ns' : List Node) (h : Group) : Type 0 where
  pub grown : Grown ns ns'
  pub room : length ns' + 1 ≡ length ns + live (map (touch Entering x) l) + live (map (touch Leaving x) l)
  pub at : h.at < length ns'
  pub tree : tree_at ns' h.at ≡ series (group_tree (edges ns (map (touch Entering x) l))) (group_tree (edges ns (map (touch Leaving x) l)))
  pub low : low_at ns' h.at ≡ h.low
  pub small : h.low < 64
