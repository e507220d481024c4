-- Numbers as text.
use Rattle.std.specs.Prelude.{ℕ, List, ◌∷◌, decimal}
use Rattle.std.specs.List.{flat_map}

-- a space and a number
abbrev pub field : ℕ → List ℕ
field n = 32 ∷ decimal n

-- numbers, each behind a space
abbrev pub fields : List ℕ → List ℕ
fields ns = flat_map field ns
