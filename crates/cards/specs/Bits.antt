-- The bits of a card, and the fields that they write.
use Rattle.std.specs.Prelude.{ℕ, ◌+◌, ◌*◌, ◌/◌, ◌%◌, ◌^◌, ◌<◌, cond, List, [], ◌∷◌, ◌++◌, length, take, drop, Ok, Err, Result, nat_le}
use Rattle.cards.specs.declared.fault.CardCause.TheVariants.{EndsEarly}
use Rattle.cards.specs.declared.fault.CardFault.{CardFault}

-- the eight bits of a byte, the most significant first
abbrev pub byte_bits : ℕ → List ℕ
byte_bits b = b / 128 % 2 ∷ b / 64 % 2 ∷ b / 32 % 2 ∷ b / 16 % 2 ∷ b / 8 % 2 ∷ b / 4 % 2 ∷ b / 2 % 2 ∷ b / 1 % 2 ∷ []

-- the bits of bytes
abbrev pub bits : List ℕ → List ℕ
bits [] = []
bits (b ∷ bs) = byte_bits b ++ bits bs

-- the number that bits write after n, the most significant first
abbrev pub number_on : ℕ → List ℕ → ℕ
number_on n [] = n
number_on n (b ∷ bs) = number_on (n * 2 + b) bs

-- the number in a field of so many bits from a bit on
unfoldable pub field_of : List ℕ → ℕ → ℕ → ℕ
field_of bytes at width = number_on 0 (take width (drop at (bits bytes)))

-- the field, or the fault where the card ends before it does
abbrev pub field_at : List ℕ → ℕ → ℕ → Result ℕ CardFault
field_at bytes at width = cond (nat_le (at + width) (8 * length bytes)) (Ok (field_of bytes at width)) (Err (record { cause = EndsEarly; bit = at }))

-- where the next field starts: nothing moves at a fault
abbrev pub moved : Result ℕ CardFault → ℕ → ℕ → ℕ
moved (Ok x) at width = at + width
moved (Err e) at width = at

-- a field of so many bits is below that power of two
abbrev pub Narrow : Result ℕ CardFault → ℕ → Type 0
Narrow (Ok x) width = x < 2 ^ width
Narrow (Err e) width = Unit {0}
