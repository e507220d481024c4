-- What a write brings about, and what it leaves.
use Rattle.std.specs.Prelude.{◌≡◌, ℕ, cond, List, length, Some, None, Option, ◌≢◌, nat_lt}
use Rattle.std.specs.List.{slice_get}

-- what is read at an index after a signal was written there
abbrev pub read_back : {S : Type 0} → List S → ℕ → S → Option S
read_back xs i s = cond (nat_lt i (length xs)) (Some s) None

-- every point but the one at an index shows what it showed
abbrev pub Elsewhere : {S : Type 0} → ℕ → List S → List S → Type 0
Elsewhere i before after = (j : ℕ) → (j ≢ i) → slice_get after j ≡ slice_get before j

-- the rest of a bank over lent memory: which memory it is, and what lies there beyond the points
abbrev pub lent : {A : Type 0} → ℕ → List A → ℕ × List A
lent memory beyond = (memory, beyond)

-- the rest of a layer: how it is arranged, and the rest of the bank below
abbrev pub layered : {A R : Type 0} → A → R → A × R
layered arranged below = (arranged, below)
