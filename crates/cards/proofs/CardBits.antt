-- The head of a card: what is read is what the bits encode, and what is encoded is read.
use Rattle.std.proofs.Common.{◌≡◌, ℕ, ◌≤◌, Bool, true, false, cond, ltb, List, Ok, Err, Result, refl, ap, ◌∙◌, subst, arith}
use Rattle.std.proofs.lemmas.Bool.{ltb-false, le-ltb, cond-false}
use Rattle.cards.specs.declared.fault.CardFault.{CardFault}
use Rattle.cards.specs.Bits.{bits, field_at}
use Rattle.cards.specs.Rungs.{and_then}
use Rattle.cards.specs.Cards.{few_rungs, head_at}
use Rattle.cards.specs.Encoding.{field_bits}
use Rattle.cards.proofs.Limits.{no_err, opened}
use Rattle.cards.proofs.Stretches.{Stretch, field-read, field_reads}

spared : (b : Bool) (d : CardFault) (n m : ℕ) → cond b (Err d) (Ok n) ≡ Ok m → (b ≡ false) × (n ≡ m)
spared true d n m e = absurd (no_err e)
spared false d n m e = (refl, cc)

pub record HeadHeld (bytes : List ℕ) (n : ℕ) : Type 0 where
  pub stretch : Stretch (bits bytes) 0 8 (field_bits 8 n)
  pub few : n ≤ 128

pub head_read : (bytes : List ℕ) (n : ℕ) → head_at bytes ≡ Ok n → HeadHeld bytes n
head_read bytes n e =
    let a = opened (field_at bytes 0 8) few_rungs n e in
    let k = spared (ltb 128 a.0) _ a.0 n a.2 in
    let f = field-read bytes 0 8 a.0 a.1 in
    subst (HeadHeld bytes) k.1 (record { stretch = f.stretch; few = ltb-false 128 a.0 k.0 })

pub head_reads : (bytes : List ℕ) (n : ℕ) → HeadHeld bytes n → head_at bytes ≡ Ok n
head_reads bytes n h =
    let few = h.few in
    let e = field_reads bytes 0 8 n (omega arith) h.stretch in
    ap (λ (r : Result ℕ CardFault). and_then r few_rungs) e ∙ cond-false (ltb 128 n) _ _ (le-ltb 128 n few)
