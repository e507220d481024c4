-- How many leaves a wiring that reads a circuit has, and how long its text can be.
use Rattle.std.proofs.Common.{◌≡◌, ℕ, zero, suc, ◌+◌, ◌*◌, ◌<◌, ◌≤◌, ◌≢◌, ◌⊎◌, List, [], ◌∷◌, ◌++◌, length, refl, subst, inl, inr, ⊎_elim, arith, length-append}
use native.Mathlib.Decide.{ℕ_discrete}
use Rattle.wiring.specs.Circuit.{Circuit, circuit, Reads}
use Rattle.wiring.specs.declared.rung.Rung.{Rung}
use Rattle.wiring.specs.Lists.{In, Distinct}
use Rattle.wiring.specs.Text.{Text, close, in_series, in_parallel, link_text, text}
use Rattle.wiring.specs.Wiring.{Wiring, link, series, parallel, leaves}
use Rattle.wiring.proofs.Drawing.{links_few}
use Rattle.wiring.proofs.Members.{around, one_less, without, within, still_distinct, others}

-- where each number below n stands in the list, it has n members at least
covers : (n : ℕ) (l : List ℕ) → ((i : ℕ) → i < n → In i l) → n ≤ length l
covers zero l h = omega arith
covers (suc n) l h =
    let r = around n l (h n (omega arith)) in
    let p = covers n (r.a ++ r.b) (λ i lt. without n l r i (h i (omega arith)) (omega arith)) in
    let q = one_less n l r in
    omega arith

dec_in : (x : ℕ) (l : List ℕ) → In x l ⊎ (In x l → ⊥)
dec_in x [] = inr (λ i. i)
dec_in x (y ∷ l) = elim (ℕ_discrete x y) [ yes p ↦ inl (inl p) | no p ↦ ⊎_elim (λ i. inl (inr i)) (λ n. inr (⊎_elim p n)) (dec_in x l) ]

-- where each member is below n and none stands twice, it has n members at most
fits_below : (n : ℕ) (l : List ℕ) → Distinct l → ((i : ℕ) → In i l → i < n) → length l ≤ n
fits_below zero [] d h = omega arith
fits_below zero (x ∷ l) d h = let p = h x (inl refl) in absurd (omega arith)
fits_below (suc n) l d h =
    ⊎_elim
    (λ m.
    let r = around n l m in
    let p = fits_below n (r.a ++ r.b) (still_distinct n l r d) (λ i j. let lt = h i (within n l r i j) in let ne = others n l r d i j in omega arith) in
    let q = one_less n l r in
    omega arith)
    (λ m.
    let p = fits_below n l d (λ i j. let lt = h i j in let ne : i ≢ n = λ q. m (subst (λ z. In z l) q j) in omega arith) in
    omega arith)
    (dec_in n l)

-- a wiring that reads a circuit has as many leaves as the circuit has links
pub leaf_count : (c : Circuit) (w : Wiring ℕ) → Reads c w → length (leaves w) ≡ length c.links
leaf_count c w R =
    let p = covers (length c.links) (leaves w) (λ i h. (R.links_are i).1 h) in
    let q = fits_below (length c.links) (leaves w) R.once (λ i j. (R.links_are i).0 j) in
    omega arith

-- at most three words for each leaf, less two
pub record Short (t : Text) (n : ℕ) : Type 0 where
  pub first : length t.first + 2 ≤ 3 * n
  pub later_and : length t.later_and + 2 ≤ 3 * n
  pub later_or : length t.later_or + 2 ≤ 3 * n

-- the text of every wiring is as short as that
pub text_short : (w : Wiring ℕ) → Short (text link_text w) (length (leaves w))
unfolding link_text in_series in_parallel
text_short (link i) = record { first = omega arith; later_and = omega arith; later_or = omega arith }
text_short (series a b) =
    let p = text_short a in
    let q = text_short b in
    let A = text link_text a in
    let B = text link_text b in
    let n = length-append (leaves a) (leaves b) in
    let f = length-append A.first B.later_and in
    let g = length-append A.later_and B.later_and in
    let h = length-append (A.first ++ B.later_and) (close ∷ []) in
    record { first = omega arith; later_and = omega arith; later_or = omega arith }
text_short (parallel a b) =
    let p = text_short a in
    let q = text_short b in
    let A = text link_text a in
    let B = text link_text b in
    let n = length-append (leaves a) (leaves b) in
    let f = length-append A.first B.later_or in
    let g = length-append A.later_or B.later_or in
    let h = length-append (A.first ++ B.later_or) (close ∷ []) in
    record { first = omega arith; later_and = omega arith; later_or = omega arith }

-- so the text of a drawn rung has 190 words at most
pub drawn_short : (r : Rung) (w : Wiring ℕ) → Reads (circuit r) w → length (text link_text w).first ≤ 190
drawn_short r w R =
    let s = (text_short w).first in
    let n = leaf_count (circuit r) w R in
    let m = links_few r in
    omega arith
