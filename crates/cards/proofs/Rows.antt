-- Fields and rows of parts, read one after the other.
use Rattle.std.proofs.Common.{◌≡◌, ℕ, suc, ◌+◌, ◌-◌, ◌*◌, ◌<◌, List, [], ◌∷◌, ◌++◌, IfOk, Ok, Err, Result, sym, refl, ap, ◌∙◌, subst, arith}
use Rattle.std.specs.Option.{ok_or}
use Rattle.std.proofs.lemmas.List.{append_assoc, append-nil}
use Rattle.wiring.specs.declared.rung.Link.{Link}
use Rattle.cards.specs.declared.fault.CardCause.TheVariants.{LinkField}
use Rattle.cards.specs.declared.fault.CardFault.{CardFault}
use Rattle.cards.specs.Reading.{Took}
use Rattle.cards.specs.Bits.{field_at}
use Rattle.wiring.specs.declared.rung.Coil.{Coil}
use Rattle.cards.specs.declared.sizes.Sizes.{Sizes}
use Rattle.cards.specs.Rungs.{and_then, row_at, fault_at, contact_of, link_of, link_at, links_at, coils_at, sizes_at, rung_at}

-- a field as it was read, at the place that it has in the card
pub there : (width : ℕ) {r : Result ℕ CardFault} {bytes now : List ℕ} {at place v : ℕ} → r ≡ field_at now place width → r ≡ Ok v → now ≡ bytes → place ≡ at → field_at bytes at width ≡ Ok v
there width e h c d = (λ i. field_at (sym c i) (sym d i) width) ∙ sym e ∙ h

-- nothing is asked after a fault
pub free : {X : Type 0} {r : Result X CardFault} {y : CardFault} (P : X → Type 0) → r ≡ Err y → IfOk r P
free {X} {r} {y} P e = let Q : Result X CardFault → Type 0 = λ x. IfOk x P in subst Q (sym e) tt

pub link_from : (bytes : List ℕ) (joints at : ℕ) {from to kind area number : ℕ} → field_at bytes at 5 ≡ Ok from → field_at bytes (at + 5) 5 ≡ Ok to → field_at bytes (at + 10) 2 ≡ Ok kind → field_at bytes (at + 12) 2 ≡ Ok area → field_at bytes (at + 14) 8 ≡ Ok number → link_at bytes joints at ≡ ok_or (link_of joints from to (contact_of kind area number)) (fault_at LinkField at)
link_from bytes joints at e1 e2 e3 e4 e5 = rw (e1, e2, e3, e4, e5)

-- what is read behind xs
abbrev pub behind : {A : Type 0} → List A → Result (List A) CardFault → Result (List A) CardFault
behind xs (Ok ys) = Ok (xs ++ ys)
behind xs (Err e) = Err e

behind_one : {A : Type 0} (xs : List A) (x : A) (r : Result (List A) CardFault) → behind xs (and_then r (λ ys. Ok (x ∷ ys))) ≡ behind (xs ++ x ∷ []) r
behind_one xs x (Ok ys) = ap Ok (sym (append_assoc xs (x ∷ []) ys))
behind_one xs x (Err e) = refl

-- a row of parts, read into a row of places
module _ {A : Type 0} (part : ℕ → Result A CardFault) (width : ℕ) where
  -- the first i parts stand in the row, and the rest makes it the whole
  abbrev pub Filled : ℕ → ℕ → ℕ → List A → Type 0
  Filled count at i row = row_at part width count at ≡ behind row (row_at part width (count - i) (at + width * i))

  pub filled_none : (count at : ℕ) → Filled count at 0 []
  filled_none count at =
      let a : at + width * 0 ≡ at = omega arith in
      let n : count - 0 ≡ count = omega arith in
      whole (row_at part width count at) ∙ (λ i. behind [] (row_at part width (sym n i) (sym a i)))
    where
      whole : (r : Result (List A) CardFault) → r ≡ behind [] r
      whole (Ok xs) = refl
      whole (Err e) = refl

  step : (n at : ℕ) (r : Result A CardFault) → part at ≡ r → row_at part width (suc n) at ≡ and_then r (λ x. and_then (row_at part width n (at + width)) (λ xs. Ok (x ∷ xs)))
  step n at r e = ap (λ (p : Result A CardFault). and_then p (λ x. and_then (row_at part width n (at + width)) (λ xs. Ok (x ∷ xs)))) e

  pub filled_more : (count at i : ℕ) (row : List A) (x : A) → i < count → part (at + width * i) ≡ Ok x → Filled count at i row → Filled count at (i + 1) (row ++ x ∷ [])
  filled_more count at i row x h e f =
      let k : count - i ≡ suc (count - (i + 1)) = omega arith in
      let q : at + width * i + width ≡ at + width * (i + 1) = omega arith in
      f
      ∙ ap (λ (m : ℕ). behind row (row_at part width m (at + width * i))) k
      ∙ ap (behind row) (step (count - (i + 1)) (at + width * i) (Ok x) e)
      ∙ behind_one row x (row_at part width (count - (i + 1)) (at + width * i + width))
      ∙ ap (λ (p : ℕ). behind (row ++ x ∷ []) (row_at part width (count - (i + 1)) p)) q

  pub filled_fault : (count at i : ℕ) (row : List A) (d : CardFault) → i < count → part (at + width * i) ≡ Err d → Filled count at i row → row_at part width count at ≡ Err d
  filled_fault count at i row d h e f =
      let k : count - i ≡ suc (count - (i + 1)) = omega arith in
      f
      ∙ ap (λ (m : ℕ). behind row (row_at part width m (at + width * i))) k
      ∙ ap (behind row) (step (count - (i + 1)) (at + width * i) (Err d) e)

  pub filled_all : (count at i : ℕ) (row : List A) → i ≡ count → Filled count at i row → row_at part width count at ≡ Ok row
  filled_all count at i row e f =
      let n : count - i ≡ 0 = omega arith in
      f ∙ ap (λ (m : ℕ). behind row (row_at part width m (at + width * i))) n ∙ ap Ok (append-nil row)

-- the exit of a `?`
pub took_fault : {A U : Type 0} (row : List A) {meant : Result (List A) CardFault} {r : Result U CardFault} {d y : CardFault} → meant ≡ Err d → r ≡ Err y → y ≡ d → Took r meant row
took_fault {A} {U} row {meant} {r} {d} {y} h e g = let P : Result U CardFault → Type 0 = λ x. Took x meant row in subst P (sym e) (h ∙ ap Err (sym g))

pub rung_from : (bytes : List ℕ) (at : ℕ) (n : Sizes) {links : List Link} {coils : List Coil} → sizes_at bytes at ≡ Ok n → links_at n.links bytes n.joints (at + 17) ≡ Ok links → coils_at n.coils bytes (at + 17 + 22 * n.links) ≡ Ok coils → rung_at bytes at ≡ Ok (record { joints = n.joints; links = links; coils = coils })
rung_from bytes at n e1 e2 e3 = rw (e1, e2, e3)
