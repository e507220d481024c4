-- What a row holds: at most as many parts as it has room for.
use Rattle.std.specs.Prelude.{◌≡◌, ℕ, ◌<◌, List, [], ◌∷◌, ◌++◌, length, take, Ok, Err, Result}
use Rattle.rows.specs.declared.row.Row.{Row}
use Rattle.rows.specs.declared.row.Full.{Full}

-- the parts that are kept, in their order
abbrev pub parts_of : {T : Type 0} {room : ℕ} → Row T room → List T
parts_of r = take r.len r.places

-- a part is kept behind those that stood, or every place is taken and nothing is altered
abbrev pub Kept : {T U : Type 0} (room : ℕ) → Row T room → T → Result U Full → Row T room → Type 0
Kept room before part (Ok u) after = (length (parts_of before) < room) × (parts_of after ≡ parts_of before ++ part ∷ [])
Kept room before part (Err e) after = (length (parts_of before) ≡ room) × (after ≡ before)
