-- The doubtful kind packed into bytes, two bits a point, most significant first.
use Rattle.std.specs.Prelude.{ℕ, zero, suc, ◌+◌, ◌*◌, ◌/◌, ◌%◌, min, cond, List, map, length, nat_lt, slice_index, slice_set}
use Rattle.std.specs.List.{range_with_len}
use Rattle.signals.specs.declared.doubtful.Doubtful.{Doubtful}
use Rattle.signals.specs.declared.doubtful.Doubtful.TheVariants.{Off, Unknown, On}

-- what two bits mean: 00 off, 01 on, 10 and 11 unknown
abbrev pub meant : ℕ → Doubtful
meant zero = Off
meant (suc zero) = On
meant (suc (suc n)) = Unknown

-- the two bits that a signal is written as
abbrev pub written : Doubtful → ℕ
written Off = 0
written Unknown = 2
written On = 1

-- the two bits at a place of a byte, counted from the most significant
abbrev pub pair : ℕ → ℕ → ℕ
pair b zero = b / 64 % 4
pair b (suc zero) = b / 16 % 4
pair b (suc (suc zero)) = b / 4 % 4
pair b (suc (suc (suc q))) = b % 4

-- the byte with the two bits v at a place
abbrev pub with_pair : ℕ → ℕ → ℕ → ℕ
with_pair b zero v = v * 64 + b % 64
with_pair b (suc zero) v = b / 64 * 64 + v * 16 + b % 16
with_pair b (suc (suc zero)) v = b / 16 * 16 + v * 4 + b % 4
with_pair b (suc (suc (suc q))) v = b / 4 * 4 + v

-- four points for each byte, of at most 192
abbrev pub held : List ℕ → ℕ
held bytes = 4 * min 192 (length bytes)

-- the two bits of the point i
abbrev pub bits_of : List ℕ → ℕ → ℕ
bits_of bytes i = pair (slice_index bytes (i / 4)) (i % 4)

-- the signals that a row of bytes means
abbrev pub unpacked : List ℕ → List Doubtful
unpacked bytes = map (λ i. meant (bits_of bytes i)) (range_with_len 0 (held bytes))

-- the bytes after a write to the point i: as they were if there is no such point
abbrev pub packed : List ℕ → ℕ → Doubtful → List ℕ
packed bytes i s = cond (nat_lt i (held bytes)) (slice_set bytes (i / 4) (with_pair (slice_index bytes (i / 4)) (i % 4) (written s))) bytes
