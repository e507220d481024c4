-- A card from its head to its end, and what the calls that read it answer and leave.
use Rattle.std.specs.Prelude.{◌≡◌, ℕ, zero, suc, ◌+◌, ◌-◌, ◌*◌, ◌/◌, ◌<◌, cond, List, length, Some, None, Ok, Err, Option, Result, ◌==◌, nat_lt, slice_index}
use Rattle.wiring.specs.declared.rung.Rung.{Rung}
use Rattle.wiring.specs.Circuit.{circuit}
use Rattle.cards.specs.declared.fault.CardCause.TheVariants.{Padding, TooManyRungs}
use Rattle.cards.specs.declared.fault.CardFault.{CardFault}
use Rattle.cards.specs.declared.progress.Progress.{Progress}
use Rattle.cards.specs.Bits.{bits, field_at}
use Rattle.cards.specs.Rungs.{and_then, fault_at, rung_at, rung_bits}

-- the head: how many rungs, at most 128
abbrev pub few_rungs : ℕ → Result ℕ CardFault
few_rungs n = cond (nat_lt 128 n) (Err (fault_at TooManyRungs 0)) (Ok n)

abbrev pub head_at : List ℕ → Result ℕ CardFault
head_at bytes = and_then (field_at bytes 0 8) few_rungs

-- so many zero bits from a bit on, and then no byte; the first that is otherwise is the fault's place
abbrev pub zeros : ℕ → List ℕ → ℕ → Result Unit CardFault
zeros zero bytes at = cond (nat_lt (at / 8) (length bytes)) (Err (fault_at Padding at)) (Ok tt)
zeros (suc n) bytes at = cond (slice_index (bits bytes) at == 0) (zeros n bytes (at + 1)) (Err (fault_at Padding at))

-- zero bits fill the last byte, and nothing follows
abbrev pub end_at : List ℕ → ℕ → Result Unit CardFault
end_at bytes at = zeros ((at + 7) / 8 * 8 - at) bytes at

-- the number of the rung that comes next
abbrev pub progress_rung : Progress → ℕ
progress_rung p = p.rungs - p.left

-- the head says so many rungs: all are left, and the first starts behind it
abbrev pub Headed : Result ℕ CardFault → Result Progress CardFault → Type 0
Headed head (Ok p) = (head ≡ Ok p.rungs) × (p.left ≡ p.rungs) × (p.at ≡ 8)
Headed head (Err e) = head ≡ Err e

-- the head was read
abbrev pub HeadRead : List ℕ → Result Progress CardFault → Type 0
HeadRead bytes answer = Headed (head_at bytes) answer

-- a rung was read, or none was left, or a fault was met and nothing moved
abbrev pub RungRead : List ℕ → Progress → Result (Option Rung) CardFault → Progress → Type 0
RungRead bytes before (Ok None) after = (before.left ≡ 0) × (after ≡ before)
RungRead bytes before (Ok (Some rung)) after =
    (rung_at bytes before.at ≡ Ok (circuit rung))
    × (after.left + 1 ≡ before.left)
    × (after.rungs ≡ before.rungs)
    × (after.at ≡ before.at + rung_bits (circuit rung))
RungRead bytes before (Err e) after = (rung_at bytes before.at ≡ Err e) × (0 < before.left) × (after ≡ before)
