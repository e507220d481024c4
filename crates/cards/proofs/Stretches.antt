-- Stretches of a card's bits, one behind the other, and the fields that they write.
use Rattle.std.proofs.Common.{◌≡◌, ℕ, ◌+◌, ◌*◌, ◌^◌, ◌<◌, ◌≤◌, leb, List, [], ◌++◌, length, take, drop, Ok, sym, refl, ap, ◌∙◌, subst, arith, length-append, length-drop, take-add}
use Rattle.std.proofs.lemmas.List.{append_cancel_left, drop-drop, take_at, drop_at, take-take, length-take-le, take-append-drop}
use Rattle.std.proofs.lemmas.Bool.{leb-true, le-leb, cond-true}
use Rattle.cards.specs.Bits.{bits, number_on, field_of, field_at}
use Rattle.cards.specs.Encoding.{field_bits}
use Rattle.cards.proofs.Places.{length-bits}
use Rattle.cards.proofs.Limits.{chosen_ok}
use Rattle.cards.proofs.Numbers.{bits_of, number_of, number_below, bits_binary, binary_take, binary_drop}

-- from a bit on, so many bits are these
pub record Stretch (all : List ℕ) (at width : ℕ) (part : List ℕ) : Type 0 where
  pub are : take width (drop at all) ≡ part
  pub within : at + width ≤ length all

module _ {all : List ℕ} where
  pub no_stretch : {at : ℕ} → at ≤ length all → Stretch all at 0 []
  no_stretch h = record { are = refl; within = omega arith }

  -- two stretches, one behind the other
  pub behind : (at w v place : ℕ) {xs ys : List ℕ} → place ≡ at + w → Stretch all at w xs → Stretch all place v ys → Stretch all at (w + v) (xs ++ ys)
  behind at w v place {xs} {ys} p s t =
      let h = t.within in
      record {
        are = take-add w v (drop at all) ∙ (λ i. s.are i ++ take v (drop-drop w at all i)) ∙ ap (λ (k : ℕ). xs ++ take v (drop k all)) (sym p) ∙ ap (λ (l : List ℕ). xs ++ l) t.are;
        within = omega arith;
      }

  pub front : (at w v : ℕ) (xs ys : List ℕ) → length xs ≡ w → Stretch all at (w + v) (xs ++ ys) → Stretch all at w xs
  front at w v xs ys l s =
      let h = s.within in
      let m : w ≤ w + v = omega arith in
      record {
        are = sym (take-take w (w + v) (drop at all) m) ∙ ap (take w) s.are ∙ take_at xs ys w l;
        within = omega arith;
      }

  pub back : (at w v place : ℕ) (xs ys : List ℕ) → place ≡ at + w → length xs ≡ w → Stretch all at (w + v) (xs ++ ys) → Stretch all place v ys
  back at w v place xs ys p l s =
      let h = s.within in
      let f = front at w v xs ys l s in
      let e = sym (take-add w v (drop at all)) ∙ s.are in
      let g : xs ++ take v (drop w (drop at all)) ≡ xs ++ ys = ap (λ (z : List ℕ). z ++ take v (drop w (drop at all))) (sym f.are) ∙ e in
      record {
        are = ap (λ (k : ℕ). take v (drop k all)) p ∙ ap (take v) (sym (drop-drop w at all)) ∙ append_cancel_left xs _ ys g;
        within = omega arith;
      }

  -- a stretch and what follows it
  pub onward : (at w : ℕ) {xs ys : List ℕ} → Stretch all at w xs → drop (at + w) all ≡ ys → drop at all ≡ xs ++ ys
  onward at w {xs} {ys} s e = sym (take-append-drop w (drop at all)) ∙ (λ i. s.are i ++ drop-drop w at all i) ∙ ap (λ (l : List ℕ). xs ++ l) e

  pub stretch_of : (at w : ℕ) (xs ys : List ℕ) → at ≤ length all → length xs ≡ w → drop at all ≡ xs ++ ys → Stretch all at w xs
  stretch_of at w xs ys h l e =
      record {
        are = ap (take w) e ∙ take_at xs ys w l;
        within = omega (arith, ap length e, length-append xs ys, length-drop at all);
      }

pub rest_of : (all : List ℕ) (at w : ℕ) (xs ys : List ℕ) → length xs ≡ w → drop at all ≡ xs ++ ys → drop (at + w) all ≡ ys
rest_of all at w xs ys l e = sym (drop-drop w at all) ∙ ap (drop w) e ∙ drop_at xs ys w l

-- a field that was read is the one that the bits write
pub record Field (bytes : List ℕ) (at w n : ℕ) : Type 0 where
  pub stretch : Stretch (bits bytes) at w (field_bits w n)
  pub small : n < 2 ^ w

pub field-read : (bytes : List ℕ) (at w n : ℕ) → field_at bytes at w ≡ Ok n → Field bytes at w n
unfolding field_of
field-read bytes at w n e =
    let all = bits bytes in
    let part = take w (drop at all) in
    let h = chosen_ok (leb (at + w) (8 * length bytes)) _ _ n e in
    let k = leb-true (at + w) (8 * length bytes) h.0 in
    let within : at + w ≤ length all = omega (arith, length-bits bytes) in
    let l : w ≤ length (drop at all) = omega (arith, length-drop at all) in
    let long : length part ≡ w = length-take-le w (drop at all) l in
    let two = binary_take w (drop at all) (binary_drop at all (bits_binary bytes)) in
    record {
      stretch = record { are = sym (bits_of 0 part two) ∙ (λ i. field_bits (long i) (h.1 i)); within = within };
      small = subst (λ (x : ℕ). x < 2 ^ w) h.1 (subst (λ (x : ℕ). number_on 0 part < 2 ^ x) long (number_below part two));
    }

pub field_reads : (bytes : List ℕ) (at w n : ℕ) → n < 2 ^ w → Stretch (bits bytes) at w (field_bits w n) → field_at bytes at w ≡ Ok n
unfolding field_of
field_reads bytes at w n small s =
    let h = s.within in
    let t = le-leb (at + w) (8 * length bytes) (omega (arith, length-bits bytes)) in
    cond-true (leb (at + w) (8 * length bytes)) _ _ t ∙ ap Ok (ap (number_on 0) s.are ∙ number_of w n small)
