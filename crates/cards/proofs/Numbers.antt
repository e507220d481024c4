-- Numbers and the bits that write them.
use Rattle.std.proofs.Common.{◌≡◌, ℕ, zero, suc, ◌+◌, ◌*◌, ◌/◌, ◌%◌, ◌^◌, ◌<◌, List, [], ◌∷◌, length, take, drop, sym, refl, ap, ◌∙◌, div-one, add-one, arith}
use native.Mathlib.Nat.{div-eq_of_lt, lt-div-mul-add}
use Rattle.std.specs.List.{AllByRecursion}
use Rattle.std.proofs.lemmas.Nat.{shr-shr, pow_pos}
use Rattle.std.proofs.ByRecursion.{All-append}
use Rattle.cards.specs.Bits.{byte_bits, bits, number_on}
use Rattle.cards.specs.Encoding.{field_bits}

-- bits
abbrev pub Binary : List ℕ → Type 0
Binary bs = AllByRecursion (λ (b : ℕ). b < 2) bs

pub length-field_bits : (w n : ℕ) → length (field_bits w n) ≡ w
unfolding field_bits
length-field_bits zero n = refl
length-field_bits (suc w) n = ap suc (length-field_bits w n)

-- one place on
halved : (n w : ℕ) → n / 2 ^ suc w ≡ n / 2 ^ w / 2
halved n w = ap (λ (k : ℕ). n / 2 ^ k) (sym (add-one w)) ∙ sym (shr-shr n w 1)

-- what stood before bits stands above them
pub above : (m : ℕ) (bs : List ℕ) → Binary bs → number_on m bs / 2 ^ length bs ≡ m
above m [] h = div-one m
above m (b ∷ bs) h =
    let i = above (m * 2 + b) bs h.1 in
    let s = h.0 in
    halved (number_on (m * 2 + b) bs) (length bs) ∙ ap (λ (x : ℕ). x / 2) i ∙ omega arith

-- the bits that write a number are those that it was read from
pub bits_of : (m : ℕ) (bs : List ℕ) → Binary bs → field_bits (length bs) (number_on m bs) ≡ bs
unfolding field_bits
bits_of m [] h = refl
bits_of m (b ∷ bs) h =
    let a = above (m * 2 + b) bs h.1 in
    let s = h.0 in
    let e : (m * 2 + b) % 2 ≡ b = omega arith in
    let f : number_on (m * 2 + b) bs / 2 ^ length bs % 2 ≡ b = ap (λ (x : ℕ). x % 2) a ∙ e in
    let g = bits_of (m * 2 + b) bs h.1 in
    λ i. f i ∷ g i

below_whole : (n p : ℕ) → 0 < p → n / p ≡ 0 → n < p
below_whole n p h e = let k : n / p * p ≡ 0 = ap (λ (x : ℕ). x * p) e ∙ omega arith in omega (arith, lt-div-mul-add {a = n} {b = p} h)

pub number_below : (bs : List ℕ) → Binary bs → number_on 0 bs < 2 ^ length bs
number_below bs h = below_whole (number_on 0 bs) (2 ^ length bs) (pow_pos (length bs)) (above 0 bs h)

-- the number that is read is the one that was written
whole : (w n : ℕ) → number_on (n / 2 ^ w) (field_bits w n) ≡ n
unfolding field_bits
whole zero n = div-one n
whole (suc w) n =
    let q = n / 2 ^ w in
    let d : q / 2 * 2 + q % 2 ≡ q = omega arith in
    ap (λ (x : ℕ). number_on (x * 2 + q % 2) (field_bits w n)) (halved n w) ∙ ap (λ (x : ℕ). number_on x (field_bits w n)) d ∙ whole w n

pub number_of : (w n : ℕ) → n < 2 ^ w → number_on 0 (field_bits w n) ≡ n
number_of w n h = ap (λ (x : ℕ). number_on x (field_bits w n)) (sym (div-eq_of_lt h)) ∙ whole w n

-- the bits of bytes
pub bits_binary : (bytes : List ℕ) → Binary (bits bytes)
bits_binary [] = tt
bits_binary (b ∷ bs) = All-append (λ (x : ℕ). x < 2) (byte_bits b) (bits bs) (omega arith, (omega arith, (omega arith, (omega arith, (omega arith, (omega arith, (omega arith, (omega arith, tt)))))))) (bits_binary bs)

pub binary_take : (n : ℕ) (bs : List ℕ) → Binary bs → Binary (take n bs)
binary_take zero bs h = tt
binary_take (suc n) [] h = tt
binary_take (suc n) (b ∷ bs) h = (h.0, binary_take n bs h.1)

pub binary_drop : (n : ℕ) (bs : List ℕ) → Binary bs → Binary (drop n bs)
binary_drop zero bs h = h
binary_drop (suc n) [] h = tt
binary_drop (suc n) (b ∷ bs) h = binary_drop n bs h.1
