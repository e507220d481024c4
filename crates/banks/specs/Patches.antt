-- The table of a patch board, and what the board shows of the bank below.
use Rattle.std.specs.Prelude.{◌≡◌, ℕ, ◌<◌, Bool, cond, ◌&&◌, List, map, length, get_or, nat_le, nat_lt, slice_index, slice_index_or, slice_set}
use Rattle.std.specs.List.{range_with_len}
use Rattle.signals.specs.Kind.{Kind}

-- every entry of a table is the number of an input
abbrev pub Within : List ℕ → Type 0
Within to = (i : ℕ) → i < 256 → slice_index to i < 256

-- no two inputs share a number
abbrev pub Apart : List ℕ → Type 0
Apart to = (i j : ℕ) → (i < 256) × (j < 256) × (slice_index to i ≡ slice_index to j) → i ≡ j

-- each input has its own number
abbrev pub Straight : List ℕ → Type 0
Straight to = (i : ℕ) → i < 256 → slice_index to i ≡ i

-- whether two numbers are those of inputs
abbrev pub inputs : ℕ → ℕ → Bool
inputs a b = nat_lt a 256 && nat_lt b 256

-- two entries of a list in each other's place
abbrev pub swapped : {X : Type 0} → X → List X → ℕ → ℕ → List X
swapped d xs a b = slice_set (slice_set xs a (slice_index_or xs b d)) b (slice_index_or xs a d)

-- the table after an exchange, which changes nothing if one of the numbers is no input
abbrev pub rewired : List ℕ → ℕ → ℕ → List ℕ
rewired to a b = cond (inputs a b) (swapped 0 to a b) to

-- where the point i of a bank that counts n lies below: a bank without all inputs is shown as it is
abbrev pub place : List ℕ → ℕ → ℕ → ℕ
place to n i = cond (nat_le 256 n && nat_lt i 256) (slice_index to i) i

-- the signals of a bank, each taken from its place below
abbrev pub patched : {S : Type 0} → Kind S → List ℕ → List S → List S
patched k to xs = map (λ i. get_or xs (place to (length xs) i) k.off) (range_with_len 0 (length xs))

-- what a board shows after an exchange: two inputs have changed places, if the bank has all inputs
abbrev pub repatched : {S : Type 0} → Kind S → List S → ℕ → ℕ → List S
repatched k xs a b = cond (inputs a b && nat_le 256 (length xs)) (swapped k.off xs a b) xs
