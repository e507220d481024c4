-- What calls that read a card answer and leave.
use Rattle.std.specs.Prelude.{◌≡◌, ℕ, ◌+◌, ◌^◌, ◌<◌, List, Ok, Err, Result, IfOk}
use Rattle.wiring.specs.declared.rung.Rung.{Rung}
use Rattle.wiring.specs.Circuit.{Circuit, circuit}
use Rattle.cards.specs.declared.bits.Bits.{Bits}
use Rattle.cards.specs.declared.fault.CardFault.{CardFault}

-- the place behind so many bits can be counted, also when it is rounded up to a byte
abbrev pub Room : Bits → ℕ → Type 0
Room bits width = bits.at + width + 7 < 2 ^ 32

-- the bytes stay; what was read has moved the next field's start by the bits that it takes
abbrev pub Ahead : {A : Type 0} → Bits → (A → ℕ) → Result A CardFault → Bits → Type 0
Ahead old width result new = (new.bytes.now ≡ old.bytes.now) × IfOk result (λ x. new.at ≡ old.at + width x)

-- the answer is that of the definition; where it accepts, the row holds what the definition reads
abbrev pub Took : {A U : Type 0} → Result U CardFault → Result (List A) CardFault → List A → Type 0
Took (Ok u) meant row = meant ≡ Ok row
Took (Err e) meant row = meant ≡ Err e

-- the answer is that of the definition; where it accepts, the rung is what the definition reads
abbrev pub Means : Result Rung CardFault → Result Circuit CardFault → Type 0
Means (Ok rung) meant = meant ≡ Ok (circuit rung)
Means (Err e) meant = meant ≡ Err e
