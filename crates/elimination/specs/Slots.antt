-- What the slots stand for: this file serves the recognition's own contracts, and is not part of what a reader must believe.
use Rattle.std.specs.Prelude.{◌≡◌, ℕ, suc, ◌<◌, Bool, true, cond, ◌&&◌, ◌||◌, ◌≢◌, List, [], ◌∷◌, map, Some, None, Option, ◌==◌, slice_index_or, length}
use Rattle.std.specs.List.{filter_map, list_all}
use Rattle.wiring.specs.Elimination.{Edge}
use Rattle.wiring.specs.Text.{link_text, text}
use Rattle.elimination.specs.declared.slots.Active.{Active}
use Rattle.elimination.specs.declared.slots.Side.{Side}
use Rattle.elimination.specs.declared.slots.Side.TheVariants.{Entering, Leaving}
use Rattle.elimination.specs.declared.table.Node.{Node}
use Rattle.elimination.specs.Trees.{tree_at}

-- the edge that a filled slot stands for
abbrev pub edge : List Node → Active → Edge
edge ns a = record { from = a.from; to = a.to; tree = tree_at ns a.at }

-- the edges of the filled slots, in order
abbrev pub edges : List Node → List (Option Active) → List Edge
edges ns [] = []
edges ns (None ∷ l) = edges ns l
edges ns (Some a ∷ l) = edge ns a ∷ edges ns l

-- how many slots are filled
abbrev pub live : List (Option Active) → ℕ
live [] = 0
live (None ∷ l) = live l
live (Some a ∷ l) = suc (live l)

-- the end of an edge at that side of a joint
abbrev pub near_of : Side → Active → ℕ
near_of Entering a = a.to
near_of Leaving a = a.from

-- its other end
abbrev pub far_of : Side → Active → ℕ
far_of Entering a = a.from
far_of Leaving a = a.to

-- the slot, if its edge touches the joint x at that side
abbrev pub touch : Side → ℕ → Option Active → Option Active
touch s x None = None
touch s x (Some a) = cond (near_of s a == x) (Some a) None

-- the slot, if its edge does not touch the joint x
abbrev pub spared : ℕ → Option Active → Option Active
spared x None = None
spared x (Some a) = cond (a.from == x || a.to == x) None (Some a)

-- the far ends of the edges that touch the joint x at that side
abbrev pub far_ends : Side → ℕ → List (Option Active) → List ℕ
far_ends s x l = map (far_of s) (filter_map (touch s x) l)

-- the number that all these numbers are, if there is one
abbrev pub only_of : List ℕ → Option ℕ
only_of [] = None
only_of (u ∷ l) = cond (list_all (λ v. v == u) l) (Some u) None

-- an edge goes from joint 0 to the joint c
abbrev pub runs_straight : ℕ → Option Active → Bool
runs_straight c None = true
runs_straight c (Some a) = a.from == 0 && a.to == c

-- all edges do
abbrev pub straight : ℕ → List (Option Active) → Bool
straight c l = list_all (runs_straight c) l

-- the lowest link of the wiring at a position
abbrev pub low_at : List Node → ℕ → ℕ
low_at ns i = (text link_text (tree_at ns i)).low

-- the filled slot k: its wiring stands in the table, k is its lowest link, and its ends differ
pub record Fine (ns : List Node) (k : ℕ) (a : Active) : Type 0 where
  pub at : a.at < length ns
  pub low : low_at ns a.at ≡ k
  pub apart : a.from ≢ a.to

-- so do all filled slots
abbrev pub Stands : List Node → List (Option Active) → Type 0
Stands ns l = (k : ℕ) (a : Active) → slice_index_or l k None ≡ Some a → Fine ns k a
