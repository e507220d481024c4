-- Readings of active edges, and whole runs of the elimination.
use Rattle.std.proofs.Common.{◌≡◌, ℕ, ◌≢◌, ◌↔◌, List}
use Rattle.wiring.specs.Lists.{In}
use Rattle.wiring.specs.Wiring.{Wiring, link, series, parallel, leaves, Runs}
use Rattle.wiring.specs.Text.{Text, link_text, text, Ordered}
use Rattle.wiring.specs.Elimination.{Edge, low_of, Rising, group_tree, Step}

-- the two ends of an edge
abbrev pub ends_of : Edge → ℕ × ℕ
ends_of e = (e.from, e.to)

-- the text that it stands for
abbrev pub val_of : Edge → Text
val_of e = text link_text e.tree

-- the text of the group of edges
abbrev pub group : List Edge → Text
group l = text link_text (group_tree l)

-- no inner joint is left: all edges A go from s to t, and G is A in rising order
pub record Done (s t : ℕ) (A G : List Edge) : Type 0 where
  pub some : (e : Edge) × In e A
  pub all : (e : Edge) → In e A → (e.from ≡ s) × (e.to ≡ t)
  pub rises : Rising G
  pub are : (e : Edge) → In e G ↔ In e A

-- a whole run, by whichever joints: r is the wiring that it ends with
pub data Run (s t : ℕ) : List Edge → Wiring ℕ → Type 0 where
  done : {A : List Edge} (G : List Edge) → Done s t A G → Run s t A (group_tree G)
  step : {A : List Edge} {r : Wiring ℕ} (x u w : ℕ) (B : List Edge) → x ≢ s → x ≢ t → Step A x u w B → Run s t B r → Run s t A r

-- A has a wiring from s to t, with the text v
pub record Reading (A : List Edge) (s t : ℕ) (v : Text) : Type 0 where
  pub tree : Wiring Edge
  pub runs : Runs ends_of tree s t
  pub ordered : Ordered val_of tree
  pub reads : text val_of tree ≡ v
  pub all : (e : Edge) → In e A → In e (leaves tree)
  pub only : (e : Edge) → In e (leaves tree) → In e A

-- edges with the same lowest link are the same
abbrev pub LowsApart : List Edge → Type 0
LowsApart A = (e f : Edge) → In e A → In f A → low_of e ≡ low_of f → e ≡ f

-- the wiring of links that a wiring of edges stands for
abbrev pub expand : Wiring Edge → Wiring ℕ
expand (link e) = e.tree
expand (series a b) = series (expand a) (expand b)
expand (parallel a b) = parallel (expand a) (expand b)

-- the wiring r is made of the edges A, as a wiring from s to t
pub record Built (A : List Edge) (s t : ℕ) (r : Wiring ℕ) : Type 0 where
  pub tree : Wiring Edge
  pub runs : Runs ends_of tree s t
  pub ordered : Ordered val_of tree
  pub made : expand tree ≡ r
  pub all : (e : Edge) → In e A → In e (leaves tree)
  pub only : (e : Edge) → In e (leaves tree) → In e A
