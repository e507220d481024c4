-- Rows of parts: what is read is what the bits encode, and what is encoded is read.
use Rattle.std.proofs.Common.{◌≡◌, ℕ, zero, suc, ◌+◌, ◌*◌, ◌≤◌, List, [], ◌∷◌, ◌++◌, length, Ok, Result, sym, refl, ap, ◌∙◌, subst, arith, length-append}
use Rattle.std.specs.List.{flat_map, AllByRecursion}
use Rattle.cards.specs.declared.fault.CardFault.{CardFault}
use Rattle.cards.specs.Rungs.{row_at}
use Rattle.cards.proofs.Limits.{opened}
use Rattle.cards.proofs.Stretches.{Stretch, no_stretch, behind, front, back}

pub length-joined : {A : Type 0} (code : A → List ℕ) (width : ℕ) → ((x : A) → length (code x) ≡ width) → (xs : List A) → length (flat_map code xs) ≡ width * length xs
length-joined code width long [] = omega arith
length-joined code width long (x ∷ xs) =
    let h = length-joined code width long xs in
    let k = long x in
    let m : width * suc (length xs) ≡ width + width * length xs = omega arith in
    length-append (code x) (flat_map code xs) ∙ (λ i. k i + h i) ∙ sym m

-- a row was read: so many parts, of which each keeps what it must
pub record RowRead {A : Type 0} (all : List ℕ) (width : ℕ) (code : A → List ℕ) (Good : A → Type 0) (n at : ℕ) (xs : List A) : Type 0 where
  pub count : length xs ≡ n
  pub stretch : Stretch all at (width * n) (flat_map code xs)
  pub good : AllByRecursion Good xs

module _ {A : Type 0} (all : List ℕ) (part : ℕ → Result A CardFault) (width : ℕ) (code : A → List ℕ) (Good : A → Type 0) where
  pub row_read : ((at : ℕ) (x : A) → part at ≡ Ok x → Stretch all at width (code x) × Good x) → (n at : ℕ) (xs : List A) → at ≤ length all → row_at part width n at ≡ Ok xs → RowRead all width code Good n at xs
  row_read each zero at xs h e =
      let q : [] ≡ xs = cc in
      let z : 0 ≡ width * 0 = omega arith in
      subst (RowRead all width code Good 0 at) q (record { count = refl; stretch = subst (λ (w : ℕ). Stretch all at w []) z (no_stretch h); good = tt })
  row_read each (suc n) at xs h e =
      let a = opened (part at) _ xs e in
      let b = opened (row_at part width n (at + width)) _ xs a.2 in
      let b2 = b.2 in
      let q : (a.0 ∷ b.0) ≡ xs = cc in
      let one = each at a.0 a.1 in
      let w = one.0.within in
      let rest = row_read each n (at + width) b.0 w b.1 in
      let m : width + width * n ≡ width * suc n = omega arith in
      subst (RowRead all width code Good (suc n) at) q
      (record {
        count = ap suc rest.count;
        stretch = subst (λ (k : ℕ). Stretch all at k (code a.0 ++ flat_map code b.0)) m (behind at width (width * n) (at + width) refl one.0 rest.stretch);
        good = (one.1, rest.good);
      })

  pub row_reads : ((x : A) → length (code x) ≡ width) → ((at : ℕ) (x : A) → Good x → Stretch all at width (code x) → part at ≡ Ok x) → (at : ℕ) (xs : List A) → AllByRecursion Good xs → Stretch all at (width * length xs) (flat_map code xs) → row_at part width (length xs) at ≡ Ok xs
  row_reads long each at [] g s = refl
  row_reads long each at (x ∷ xs) g s =
      let m : width * suc (length xs) ≡ width + width * length xs = omega arith in
      let t = subst (λ (k : ℕ). Stretch all at k (code x ++ flat_map code xs)) m s in
      let e1 = each at x g.0 (front at width (width * length xs) (code x) (flat_map code xs) (long x) t) in
      let e2 = row_reads long each (at + width) xs g.1 (back at width (width * length xs) (at + width) (code x) (flat_map code xs) refl (long x) t) in
      rw (e1, e2)
