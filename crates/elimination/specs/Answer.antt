-- What the recognition of a rung answers.
use Rattle.std.specs.Prelude.{◌≡◌, ℕ, ◌+◌, ◌<◌, List, length, Some, None, Option}
use Rattle.wiring.specs.Circuit.{Circuit, Reads, SeriesParallel}
use Rattle.wiring.specs.Text.{link_text, text}
use Rattle.wiring.specs.Wiring.{Wiring, leaves}
use Rattle.elimination.specs.declared.table.Node.{Node}
use Rattle.elimination.specs.Trees.{tree_at}

-- the wiring at the position root of the table reads the circuit
pub record Decomposed (c : Circuit) (ns : List Node) (root : ℕ) : Type 0 where
  pub reads : Reads c (tree_at ns root)
  -- every wiring that reads the circuit has its text
  pub one_text : (w : Wiring ℕ) → Reads c w → text link_text w ≡ text link_text (tree_at ns root)
  pub within : root < length ns
  -- n links make 2n - 1 nodes
  pub nodes : length ns + 1 ≡ length c.links + length c.links
  pub leaf_count : length (leaves (tree_at ns root)) ≡ length c.links

-- the position of a wiring that reads the circuit, or that no wiring reads it
abbrev pub Answer : Circuit → List Node → Option ℕ → Type 0
Answer c ns (Some root) = Decomposed c ns root
Answer c ns None = SeriesParallel c → ⊥
