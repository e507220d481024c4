-- Where a bit stands, and a field one bit longer. Assumes nothing.
use Rattle.std.proofs.Common.{◌≡◌, ℕ, zero, suc, ◌+◌, ◌-◌, ◌*◌, ◌/◌, ◌%◌, ◌^◌, ◌<◌, ◌≤◌, List, [], ◌∷◌, ◌++◌, length, get_or, take, drop, None, Some, Option, Bor, sym, refl, ap, ◌∙◌, zero-add, subst, arith, length-append, pow_mono, pow-add}
use Rattle.std.specs.Option.{MatchOption, option_map, unwrap_or}
use Rattle.std.proofs.Math.Nat.{zero-div}
use Rattle.std.specs.List.{fold, range_with_len}
use Rattle.std.proofs.lemmas.List.{drop_more}
use Rattle.cards.specs.Bits.{byte_bits, bits, number_on, field_of}

one : (b k : ℕ) (rest : List ℕ) → k < 8 → get_or (byte_bits b ++ rest) k 0 ≡ b / 2 ^ (7 - k) % 2
one b zero rest h = refl
one b (suc zero) rest h = refl
one b (suc (suc zero)) rest h = refl
one b (suc (suc (suc zero))) rest h = refl
one b (suc (suc (suc (suc zero)))) rest h = refl
one b (suc (suc (suc (suc (suc zero))))) rest h = refl
one b (suc (suc (suc (suc (suc (suc zero)))))) rest h = refl
one b (suc (suc (suc (suc (suc (suc (suc zero))))))) rest h = refl
one b (suc (suc (suc (suc (suc (suc (suc (suc k)))))))) rest h = absurd (omega arith)

-- eight places on
past : (b : ℕ) (rest : List ℕ) (i : ℕ) → get_or (byte_bits b ++ rest) (8 + i) 0 ≡ get_or rest i 0
past b rest i =
    let e : 8 + i ≡ suc (suc (suc (suc (suc (suc (suc (suc i))))))) = omega arith in
    ap (λ j. get_or (byte_bits b ++ rest) j 0) e

none : (k : ℕ) → 0 / 2 ^ k % 2 ≡ 0
none k = ap (λ (x : ℕ). x % 2) (zero-div (2 ^ k))

at : (bs : List ℕ) (q k : ℕ) → k < 8 → get_or (bits bs) (8 * q + k) 0 ≡ get_or bs q 0 / 2 ^ (7 - k) % 2
at [] q k l = sym (none (7 - k))
at (b ∷ bs) zero k l = ap (λ j. get_or (byte_bits b ++ bits bs) j 0) (zero-add k) ∙ one b k (bits bs) l
at (b ∷ bs) (suc q) k l =
    let e : 8 * suc q + k ≡ 8 + (8 * q + k) = omega arith in
    ap (λ j. get_or (byte_bits b ++ bits bs) j 0) e ∙ past b (bits bs) (8 * q + k) ∙ at bs q k l

-- a bit by its byte and its place there; past the bytes both are 0
bit_at : (bs : List ℕ) (i : ℕ) → get_or (bits bs) i 0 ≡ get_or bs (i / 8) 0 / 2 ^ (7 - i % 8) % 2
bit_at bs i =
    let e : i ≡ 8 * (i / 8) + i % 8 = omega arith in
    ap (λ j. get_or (bits bs) j 0) e ∙ at bs (i / 8) (i % 8) (omega arith)

-- the bit of a byte, if there is one, and otherwise 0
of_byte : (o : Option (Bor ℕ)) (P : Bor ℕ → Type 0) (k r b : ℕ) → MatchOption o (r ≡ 0) P → ((x : Bor ℕ) → P x → r ≡ x.now / 2 ^ k % 2) → unwrap_or (option_map (λ x. x.now) o) 0 ≡ b → r ≡ b / 2 ^ k % 2
of_byte None P k r b m f e = m ∙ sym (none k) ∙ ap (λ (x : ℕ). x / 2 ^ k % 2) e
of_byte (Some x) P k r b m f e = f x m ∙ ap (λ (x : ℕ). x / 2 ^ k % 2) e

pub bit_of : (bs : List ℕ) (i r : ℕ) (o : Option (Bor ℕ)) (P : Bor ℕ → Type 0) → MatchOption o (r ≡ 0) P → ((x : Bor ℕ) → P x → r ≡ x.now / 2 ^ (7 - i % 8) % 2) → unwrap_or (option_map (λ x. x.now) o) 0 ≡ get_or bs (i / 8) 0 → r ≡ get_or (bits bs) i 0
bit_of bs i r o P m f e = of_byte o P (7 - i % 8) r (get_or bs (i / 8) 0) m f e ∙ sym (bit_at bs i)

pub length-bits : (bs : List ℕ) → length (bits bs) ≡ 8 * length bs
length-bits [] = refl
length-bits (b ∷ bs) = let h = length-bits bs in omega arith

-- a field by its bits one after the other
fold_number : (bs : List ℕ) (n p w : ℕ) → p + w ≤ length (bits bs) → fold (λ a i. a * 2 + get_or (bits bs) i 0) n (range_with_len p w) ≡ number_on n (take w (drop p (bits bs)))
fold_number bs n p zero h = refl
fold_number bs n p (suc w) h =
    fold_number bs (n * 2 + get_or (bits bs) p 0) (p + 1) w (omega arith)
    ∙ sym (ap (λ (l : List ℕ). number_on n (take (suc w) l)) (drop_more (bits bs) p 0 (omega arith)))

pub fold_field : (bs : List ℕ) (p w : ℕ) → p + w ≤ 8 * length bs → fold (λ a i. a * 2 + get_or (bits bs) i 0) 0 (range_with_len p w) ≡ field_of bs p w
unfolding field_of
fold_field bs p w h = fold_number bs 0 p w (omega (arith, length-bits bs))

-- one bit more
pub doubled : {A : Type 0} (xs : List A) (x : A) (v w : ℕ) → v < 2 ^ length xs → w < v * 2 + 2 → w < 2 ^ length (xs ++ x ∷ [])
doubled xs x v w h l = subst (λ (n : ℕ). w < 2 ^ n) (sym (length-append xs (x ∷ []))) (omega (arith, pow-add 2 (length xs) 1))

pub below_15 : (v k : ℕ) → v < 2 ^ k → k < 16 → v < 32768
below_15 v k h l = let q : k ≤ 15 = omega arith in omega (arith, pow_mono q)
