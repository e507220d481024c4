-- Arranging a pile: what a call answers, and what it leaves.
use Rattle.std.specs.Prelude.{◌≡◌, ℕ, Bool, Ok, Err, Result, nat_lt, slice_set}
use Rattle.banks.specs.declared.refusal.Refusal.{Refusal}
use Rattle.banks.specs.Patches.{inputs, rewired}
use Rattle.banks.specs.Refusals.{answered}
use Rattle.piles.specs.declared.layer.Layer.{Layer}
use Rattle.piles.specs.declared.layer.Layer.TheVariants.{Bare, Marked, Patched}
use Rattle.piles.specs.declared.fault.ArrangeFault.{ArrangeFault}
use Rattle.piles.specs.declared.fault.ArrangeFault.TheVariants.{NoSuchLayer, Refused}

-- a layer's own answer, as the pile answers it
abbrev pub passed_on : Result (Unit {0}) Refusal → Result (Unit {0}) ArrangeFault
passed_on (Ok u) = Ok u
passed_on (Err e) = Err (Refused e)

-- the answer to a marking: only a strip has marks
abbrev pub mark_told : {B : Type 0} → Layer B → ℕ → Result (Unit {0}) ArrangeFault
mark_told (Bare b) input = Err NoSuchLayer
mark_told (Marked strip) input = passed_on (answered (nat_lt input 256))
mark_told (Patched board) input = Err NoSuchLayer

-- the layer with a mark set or cleared
abbrev pub marking : {B : Type 0} → Layer B → ℕ → Bool → Layer B
marking (Bare b) input inverted = Bare b
marking (Marked strip) input inverted = Marked (record { bank = strip.bank; marks = slice_set strip.marks input inverted })
marking (Patched board) input inverted = Patched board

-- the answer to an exchange: only a board has a table
abbrev pub exchange_told : {B : Type 0} → Layer B → ℕ → ℕ → Result (Unit {0}) ArrangeFault
exchange_told (Bare b) x y = Err NoSuchLayer
exchange_told (Marked strip) x y = Err NoSuchLayer
exchange_told (Patched board) x y = passed_on (answered (inputs x y))

-- the layer after an exchange: a board's table has two entries swapped, and any other layer is as it was
abbrev pub Exchanging : {B : Type 0} → Layer B → ℕ → ℕ → Layer B → Type 0
Exchanging (Bare b) x y after = after ≡ Bare b
Exchanging (Marked strip) x y after = after ≡ Marked strip
Exchanging (Patched board) x y (Bare b) = ⊥
Exchanging (Patched board) x y (Marked strip) = ⊥
Exchanging (Patched board) x y (Patched after) = (after.bank ≡ board.bank) × (after.table.to ≡ rewired board.table.to x y)
