-- A part more of a row that has a place left.
use Rattle.std.proofs.Common.{◌≡◌, ℕ, ◌+◌, ◌<◌, [], ◌∷◌, ◌++◌, length, Ok, Err, Result, ap, ◌∙◌, arith, length-append}
use Rattle.rows.specs.declared.row.Row.{Row}
use Rattle.rows.specs.declared.row.Full.{Full}
use Rattle.rows.specs.Rows.{parts_of, Kept}

module _ {T U : Type 0} {room : ℕ} (before : Row T room) (part : T) where
  pub kept_one : (answer : Result U Full) (after : Row T room) → length (parts_of before) < room → Kept room before part answer after → parts_of after ≡ parts_of before ++ part ∷ []
  kept_one (Ok u) after h k = k.1
  kept_one (Err f) after h k = let m = k.0 in absurd (omega arith)

  pub kept_len : (answer : Result U Full) (after : Row T room) → length (parts_of before) < room → Kept room before part answer after → length (parts_of after) ≡ length (parts_of before) + 1
  kept_len answer after h k = ap length (kept_one answer after h k) ∙ length-append (parts_of before) (part ∷ [])
