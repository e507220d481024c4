-- What the decomposition table stands for.
use Rattle.std.specs.Prelude.{ℕ, zero, suc, ◌<◌, Bool, true, ◌&&◌, List, [], ◌∷◌, nat_lt, slice_index_or}
use Rattle.wiring.specs.Wiring.{Wiring, link, series, parallel}
use Rattle.elimination.specs.declared.table.Node.{Node}
use Rattle.elimination.specs.declared.table.Node.TheVariants.{Link, Series, Parallel}

-- the wiring of a node, given the wirings of the positions
abbrev pub formed : (ℕ → Wiring ℕ) → Node → Wiring ℕ
formed f (Link n) = link n
formed f (Series a b) = series (f a) (f b)
formed f (Parallel a b) = parallel (f a) (f b)

-- the wiring at a position, followed down as many nodes as the first number says
unfoldable pub tree_of : ℕ → List Node → ℕ → Wiring ℕ
tree_of zero ns i = link 0
tree_of (suc k) ns i = formed (tree_of k ns) (slice_index_or ns i (Link 0))

-- the wiring at a position: since parts stand lower, position i is followed down i nodes at most
unfoldable pub tree_at : List Node → ℕ → Wiring ℕ
tree_at ns i = tree_of (suc i) ns i

-- the parts of a node stand below position i
abbrev pub Under : ℕ → Node → Type 0
Under i (Link n) = Unit {0}
Under i (Series a b) = (a < i) × (b < i)
Under i (Parallel a b) = (a < i) × (b < i)

-- the same, tested
abbrev pub below : ℕ → Node → Bool
below i (Link n) = true
below i (Series a b) = nat_lt a i && nat_lt b i
below i (Parallel a b) = nat_lt a i && nat_lt b i

-- the parts of every node stand lower than the node, the first of these nodes at position i
abbrev pub lower : ℕ → List Node → Bool
lower i [] = true
lower i (n ∷ ns) = below i n && lower (suc i) ns
