-- Piles of two layers: laying one more, and arranging the lower one.
use Rattle.std.specs.Prelude.{◌≡◌, ℕ, false, replicate, Ok, Err, Result}
use Rattle.banks.specs.declared.patch.PatchBoard.{PatchBoard}
use Rattle.banks.specs.Patches.{Straight}
use Rattle.piles.specs.declared.layer.Layer.{Layer}
use Rattle.piles.specs.declared.layer.Layer.TheVariants.{Bare, Marked, Patched}
use Rattle.piles.specs.Arranged.{Exchanging}
use Rattle.piles.specs.Layered.{bottom}

-- the bank at the bottom of a pile
abbrev pub bank_of : {B : Type 0} → Layer (Layer B) → B
bank_of pile = bottom (bottom pile)

-- a strip without marks
abbrev pub stripped : {B : Type 0} → B → Layer B
stripped b = Marked (record { bank = b; marks = replicate 256 false })

-- a strip in the lowest place that is free
abbrev pub strip_on : {B : Type 0} → Layer B → Layer (Layer B)
strip_on (Bare b) = Bare (stripped b)
strip_on (Marked strip) = stripped (Marked strip)
strip_on (Patched board) = stripped (Patched board)

-- a layer laid in the lowest place that is free, or the pile given back that has a layer at the top already
abbrev pub LaidAs : {B : Type 0} → (B → Layer B → Type 0) → (Layer B → Layer (Layer B) → Type 0) → Layer (Layer B) → Result (Layer (Layer B)) (Layer (Layer B)) → Type 0
LaidAs {B} on_bank on_layer (Bare (Bare b)) r = (l : Layer B) × on_bank b l × (r ≡ Ok (Bare l))
LaidAs {B} on_bank on_layer (Bare (Marked strip)) r = (pile : Layer (Layer B)) × on_layer (Marked strip) pile × (r ≡ Ok pile)
LaidAs {B} on_bank on_layer (Bare (Patched board)) r = (pile : Layer (Layer B)) × on_layer (Patched board) pile × (r ≡ Ok pile)
LaidAs on_bank on_layer (Marked strip) r = r ≡ Err (Marked strip)
LaidAs on_bank on_layer (Patched board) r = r ≡ Err (Patched board)

-- the same, under a name by which a proof finds what may be laid
pub record Laid {B : Type 0} (on_bank : B → Layer B → Type 0) (on_layer : Layer B → Layer (Layer B) → Type 0) (pile : Layer (Layer B)) (r : Result (Layer (Layer B)) (Layer (Layer B))) : Type 0 where
  pub is : LaidAs on_bank on_layer pile r

-- a strip laid on a pile, or the pile given back that has a layer at the top already
abbrev pub with_strip : {B : Type 0} → Layer (Layer B) → Result (Layer (Layer B)) (Layer (Layer B))
with_strip (Bare l) = Ok (strip_on l)
with_strip (Marked strip) = Err (Marked strip)
with_strip (Patched board) = Err (Patched board)

-- the board has each input at its own number, and stands on a bank
pub record StraightOver {B : Type 0} (b : B) (board : PatchBoard B) : Type 0 where
  pub below : board.bank ≡ b
  pub straight : Straight board.table.to

-- a board with each input at its own number, laid on a bank
abbrev pub Boarded : {B : Type 0} → B → Layer B → Type 0
Boarded {B} b l = (board : PatchBoard B) × StraightOver b board × (l ≡ Patched board)

-- a board in the lowest place that is free
abbrev pub BoardOn : {B : Type 0} → Layer B → Layer (Layer B) → Type 0
BoardOn {B} (Bare b) pile = (board : PatchBoard B) × StraightOver b board × (pile ≡ Bare (Patched board))
BoardOn {B} (Marked strip) pile = (board : PatchBoard (Layer B)) × StraightOver (Marked strip) board × (pile ≡ Patched board)
BoardOn {B} (Patched lower) pile = (board : PatchBoard (Layer B)) × StraightOver (Patched lower) board × (pile ≡ Patched board)

-- a board laid on a pile, or the pile given back that has a layer at the top already
abbrev pub WithBoard : {B : Type 0} → Layer (Layer B) → Result (Layer (Layer B)) (Layer (Layer B)) → Type 0
WithBoard (Bare l) (Ok pile) = BoardOn l pile
WithBoard (Bare l) (Err pile) = ⊥
WithBoard (Marked strip) r = r ≡ Err (Marked strip)
WithBoard (Patched board) r = r ≡ Err (Patched board)

-- the pile with another lower layer, and the upper one as it was
abbrev pub with_lower : {B : Type 0} → Layer (Layer B) → Layer B → Layer (Layer B)
with_lower (Bare l) l' = Bare l'
with_lower (Marked strip) l' = Marked (record { bank = l'; marks = strip.marks })
with_lower (Patched board) l' = Patched (record { bank = l'; table = board.table })

-- the lower layer is arranged with an answer, and the upper one is as it was
abbrev pub ArrangedBelow : {B R : Type 0} → (Layer B → R → Layer B → Type 0) → Layer (Layer B) → R → Layer (Layer B) → Type 0
ArrangedBelow {B} arranging before r after = (l : Layer B) × arranging (bottom before) r l × (after ≡ with_lower before l)

-- the lower layer has two entries swapped, and the upper one is as it was
abbrev pub ExchangedBelow : {B : Type 0} → Layer (Layer B) → ℕ → ℕ → Layer (Layer B) → Type 0
ExchangedBelow {B} before x y after = (l : Layer B) × Exchanging (bottom before) x y l × (after ≡ with_lower before l)
