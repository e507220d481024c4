-- What a chosen layer shows, and how it is arranged.
use Rattle.std.specs.Prelude.{ℕ, ◌≤◌, Bool, List, [], length}
use Rattle.signals.specs.Kind.{Kind}
use Rattle.banks.specs.Layers.{board_shows, strip_shows}
use Rattle.banks.specs.Short.{shown_short, patched_short}
use Rattle.piles.specs.declared.layer.Layer.{Layer}
use Rattle.piles.specs.declared.layer.Layer.TheVariants.{Bare, Marked, Patched}

-- the points: those of the bank below, of the strip, or of the board
abbrev pub layer_shows : {B S : Type 0} → Kind S → (B → List S) → Layer B → List S
layer_shows k points (Bare b) = points b
layer_shows k points (Marked strip) = strip_shows k points strip
layer_shows k points (Patched board) = board_shows k points board

-- at most 768, if the bank below has no more
pub layer_short : {B S : Type 0} (k : Kind S) (points : B → List S) → ((b : B) → length (points b) ≤ 768) → (l : Layer B) → length (layer_shows k points l) ≤ 768
layer_short k points short (Bare b) = short b
layer_short k points short (Marked strip) = shown_short k strip.marks (points strip.bank) (short strip.bank)
layer_short k points short (Patched board) = patched_short k board.table.to (points board.bank) (short board.bank)

-- the bank at the bottom
abbrev pub bottom : {B : Type 0} → Layer B → B
bottom (Bare b) = b
bottom (Marked strip) = strip.bank
bottom (Patched board) = board.bank

-- the marks of a strip; no other layer has any
abbrev pub marks_of : {B : Type 0} → Layer B → List Bool
marks_of (Bare b) = []
marks_of (Marked strip) = strip.marks
marks_of (Patched board) = []

-- the table of a board; no other layer has one
abbrev pub table_of : {B : Type 0} → Layer B → List ℕ
table_of (Bare b) = []
table_of (Marked strip) = []
table_of (Patched board) = board.table.to

-- all of a layer but its points: how it is arranged, and the rest of the bank below
abbrev pub layer_rest : {B R : Type 0} → (B → R) → Layer B → List Bool × List ℕ × R
layer_rest rest l = (marks_of l, table_of l, rest (bottom l))
