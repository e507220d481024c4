-- The padding of a card, bit by bit and as a whole.
use Rattle.std.proofs.Common.{◌≡◌, ℕ, zero, suc, ◌+◌, ◌-◌, ◌*◌, ◌/◌, ◌<◌, ◌≤◌, Bool, true, false, cond, eqb, ltb, List, ◌∷◌, length, get_or, drop, replicate, Ok, Err, Result, sym, refl, ap, ◌∙◌, arith, length-drop}
use lib.ListN.{length-replicate}
use Rattle.std.proofs.lemmas.List.{drop_all, drop_more}
use Rattle.std.proofs.lemmas.Bool.{ltb-false, le-ltb, lt-ltb, eqb-true, eq-eqb, cond-true, cond-false}
use Rattle.std.proofs.lemmas.Bool.Decides.{nat_tests}
use Rattle.cards.specs.declared.fault.CardCause.TheVariants.{Padding}
use Rattle.cards.specs.declared.fault.CardFault.{CardFault}
use Rattle.cards.specs.Bits.{bits}
use Rattle.cards.specs.Rungs.{fault_at}
use Rattle.cards.specs.Cards.{zeros, end_at}
use Rattle.cards.proofs.Limits.{no_err}
use Rattle.cards.proofs.Places.{length-bits}

abbrev Ended : Type 0
Ended = Result Unit CardFault

here : (bytes : List ℕ) (end i : ℕ) → i < end → zeros (end - i) bytes i ≡ cond (eqb (get_or (bits bytes) i 0) 0) (zeros (end - (i + 1)) bytes (i + 1)) (Err (fault_at Padding i))
here bytes end i h = let e : end - i ≡ suc (end - (i + 1)) = omega arith in ap (λ n. zeros n bytes i) e

one_found : (bytes : List ℕ) (end i : ℕ) → i < end → (get_or (bits bytes) i 0 ≡ 0 → ⊥) → zeros (end - i) bytes i ≡ Err (fault_at Padding i)
one_found bytes end i h z =
    let t : eqb (get_or (bits bytes) i 0) 0 ≡ false = grind (arith, nat_tests) in
    here bytes end i h ∙ ap (λ b. cond {A = Ended} b (zeros (end - (i + 1)) bytes (i + 1)) (Err (fault_at Padding i))) t

-- zero bits up to a place further on
pub zeros-skip : (n m : ℕ) (bytes : List ℕ) (at : ℕ) → ((i : ℕ) → at ≤ i → i < at + n → get_or (bits bytes) i 0 ≡ 0) → zeros (n + m) bytes at ≡ zeros m bytes (at + n)
zeros-skip zero m bytes at f =
    let a : at ≡ at + 0 = omega arith in
    let z : 0 + m ≡ m = omega arith in
    λ i. zeros (z i) bytes (a i)
zeros-skip (suc n) m bytes at f =
    let a : at + 1 + n ≡ at + suc n = omega arith in
    let k : suc n + m ≡ suc (n + m) = omega arith in
    ap (λ (x : ℕ). zeros x bytes at) k
    ∙ cond-true (eqb (get_or (bits bytes) at 0) 0) _ _ (eq-eqb (get_or (bits bytes) at 0) 0 (f at (omega arith) (omega arith)))
    ∙ zeros-skip n m bytes (at + 1) (λ i h l. f i (omega arith) (omega arith))
    ∙ ap (zeros m bytes) a

-- no bit is 1 up to the end of the last byte
zeros_all : (bytes : List ℕ) (at end : ℕ) → at ≤ end → ((i : ℕ) → at ≤ i → i < end → get_or (bits bytes) i 0 ≡ 0) → zeros (end - at) bytes at ≡ zeros 0 bytes end
zeros_all bytes at end h f =
    let k : end - at ≡ (end - at) + 0 = omega arith in
    let e : at + (end - at) ≡ end = omega arith in
    ap (λ (x : ℕ). zeros x bytes at) k ∙ zeros-skip (end - at) 0 bytes at (λ i l r. f i l (omega arith)) ∙ ap (zeros 0 bytes) e

pub zeros-follow : (bytes : List ℕ) (at end : ℕ) → at ≤ end → ((i : ℕ) → at ≤ i → i < end → get_or (bits bytes) i 0 ≡ 0) → end / 8 < length bytes → zeros (end - at) bytes at ≡ Err (fault_at Padding end)
zeros-follow bytes at end h f l = zeros_all bytes at end h f ∙ cond-true (ltb (end / 8) (length bytes)) _ _ (lt-ltb (end / 8) (length bytes) l)

pub zeros_end : (bytes : List ℕ) (at end : ℕ) → at ≤ end → ((i : ℕ) → at ≤ i → i < end → get_or (bits bytes) i 0 ≡ 0) → length bytes ≤ end / 8 → zeros (end - at) bytes at ≡ Ok tt
zeros_end bytes at end h f l = zeros_all bytes at end h f ∙ cond-false (ltb (end / 8) (length bytes)) _ _ (le-ltb (end / 8) (length bytes) l)

-- up to a bit that is 1
pub zeros_but : (bytes : List ℕ) (at end i : ℕ) → at ≤ i → i < end → ((j : ℕ) → at ≤ j → j < i → get_or (bits bytes) j 0 ≡ 0) → (get_or (bits bytes) i 0 ≡ 0 → ⊥) → zeros (end - at) bytes at ≡ Err (fault_at Padding i)
zeros_but bytes at end i l h f one =
    let k : end - at ≡ (i - at) + (end - i) = omega arith in
    let e : at + (i - at) ≡ i = omega arith in
    ap (λ (x : ℕ). zeros x bytes at) k
    ∙ zeros-skip (i - at) (end - i) bytes at (λ j a b. f j a (omega arith))
    ∙ ap (zeros (end - i) bytes) e
    ∙ one_found bytes end i h one

-- zero bits up to the end
passed : (b : Bool) (r : Ended) (d : CardFault) → cond b r (Err d) ≡ Ok tt → (b ≡ true) × (r ≡ Ok tt)
passed true r d e = (refl, e)
passed false r d e = absurd (no_err e)

stopped : (b : Bool) (d : CardFault) → cond {A = Ended} b (Err d) (Ok tt) ≡ Ok tt → b ≡ false
stopped true d e = absurd (no_err e)
stopped false d e = refl

zeros-read : (k : ℕ) (bytes : List ℕ) (at m : ℕ) → k < 8 → at + k ≡ 8 * m → at ≤ length (bits bytes) → zeros k bytes at ≡ Ok tt → drop at (bits bytes) ≡ replicate k 0
zeros-read zero bytes at m h p w e =
    let l = ltb-false (at / 8) (length bytes) (stopped (ltb (at / 8) (length bytes)) _ e) in
    drop_all at (bits bytes) (omega (arith, length-bits bytes))
zeros-read (suc k) bytes at m h p w e =
    let t = passed (eqb (get_or (bits bytes) at 0) 0) (zeros k bytes (at + 1)) _ e in
    let z = eqb-true (get_or (bits bytes) at 0) 0 t.0 in
    let l : at < length (bits bytes) = omega (arith, length-bits bytes) in
    let r = zeros-read k bytes (at + 1) m (omega arith) (omega arith) (omega arith) t.1 in
    drop_more (bits bytes) at 0 l ∙ (λ i. z i ∷ r i)

zeros_reads : (k : ℕ) (bytes : List ℕ) (at : ℕ) → at + k ≡ 8 * length bytes → drop at (bits bytes) ≡ replicate k 0 → zeros k bytes at ≡ Ok tt
zeros_reads zero bytes at p e =
    let t = le-ltb (at / 8) (length bytes) (omega arith) in
    cond-false (ltb (at / 8) (length bytes)) _ _ t
zeros_reads (suc k) bytes at p e =
    let l : at < length (bits bytes) = omega (arith, length-bits bytes) in
    let f = sym (drop_more (bits bytes) at 0 l) ∙ e in
    let z : get_or (bits bytes) at 0 ≡ 0 = cc in
    let r : drop (at + 1) (bits bytes) ≡ replicate k 0 = cc in
    cond-true (eqb (get_or (bits bytes) at 0) 0) _ _ (eq-eqb (get_or (bits bytes) at 0) 0 z) ∙ zeros_reads k bytes (at + 1) (omega arith) r

-- the card ends in fewer than eight zero bits
pub record Padded (bytes : List ℕ) (at : ℕ) : Type 0 where
  pub padding : ℕ
  pub short : padding < 8
  pub are : drop at (bits bytes) ≡ replicate padding 0

pub end_read : (bytes : List ℕ) (at : ℕ) → at ≤ length (bits bytes) → end_at bytes at ≡ Ok tt → Padded bytes at
end_read bytes at w e =
    let k = (at + 7) / 8 * 8 - at in
    let short : k < 8 = omega arith in
    let whole : at + k ≡ 8 * ((at + 7) / 8) = omega arith in
    record { padding = k; short = short; are = zeros-read k bytes at ((at + 7) / 8) short whole w e }

pub end_reads : (bytes : List ℕ) (at : ℕ) → at ≤ length (bits bytes) → Padded bytes at → end_at bytes at ≡ Ok tt
end_reads bytes at w p =
    let k = p.padding in
    let short = p.short in
    let whole : at + k ≡ 8 * length bytes = omega (arith, ap length p.are, length-drop at (bits bytes), length-replicate {A = ℕ} k 0, length-bits bytes) in
    let same : (at + 7) / 8 * 8 - at ≡ k = omega arith in
    ap (λ (n : ℕ). zeros n bytes at) same ∙ zeros_reads k bytes at whole p.are
