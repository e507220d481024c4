-- The points that a layer shows, by the points of the bank below.
use Rattle.std.specs.Prelude.{List}
use Rattle.signals.specs.Kind.{Kind}
use Rattle.banks.specs.declared.patch.PatchBoard.{PatchBoard}
use Rattle.banks.specs.declared.strip.Strip.{Strip}
use Rattle.banks.specs.Marks.{shown}
use Rattle.banks.specs.Patches.{patched}

abbrev pub strip_shows : {B S : Type 0} → Kind S → (B → List S) → Strip B → List S
strip_shows k points strip = shown k strip.marks (points strip.bank)

abbrev pub board_shows : {B S : Type 0} → Kind S → (B → List S) → PatchBoard B → List S
board_shows k points board = patched k board.table.to (points board.bank)
