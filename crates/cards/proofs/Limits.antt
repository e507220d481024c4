-- What a card accepts keeps the limits of a rung.
use Rattle.std.proofs.Common.{◌≡◌, ℕ, zero, suc, ◌+◌, ◌≤◌, Bool, true, false, cond, ◌&&◌, List, [], ◌∷◌, Some, None, Ok, Err, Option, Result, refl, subst, arith}
use Rattle.std.proofs.lemmas.Bool.Decides.{nat_tests}
use Rattle.std.specs.Option.{ok_or}
use Rattle.points.specs.declared.point.Point.{Point}
use Rattle.wiring.specs.declared.rung.Contact.{Contact}
use Rattle.wiring.specs.declared.rung.Link.{Link}
use Rattle.wiring.specs.declared.rung.Coil.{Coil}
use Rattle.wiring.specs.Drawn.{between, linked, drivable, driven}
use Rattle.cards.specs.declared.fault.CardFault.{CardFault}
use Rattle.cards.specs.declared.sizes.Sizes.{Sizes}
use Rattle.cards.specs.Bits.{field_at}
use Rattle.cards.specs.Rungs.{and_then, row_at, placed, contact_of, link_of, link_at, links_at, point_of, coil_of, coil_at, coils_at, countable, sized, sizes_at}

pub no_err : {A : Type 0} {e : CardFault} {x : A} → ◌≡◌ {A = Result A CardFault} (Err e) (Ok x) → ⊥
no_err p = let z : ◌≡◌ {A = ℕ} 0 1 = cc in omega arith

pub no_none : {A : Type 0} {x : A} → ◌≡◌ {A = Option A} None (Some x) → ⊥
no_none p = let z : ◌≡◌ {A = ℕ} 0 1 = cc in omega arith

-- what is accepted has come through every part
through : {A B : Type 0} (r : Result A CardFault) (next : A → Result B CardFault) (P : B → Type 0) (y : B) → ((x : A) → next x ≡ Ok y → P y) → and_then r next ≡ Ok y → P y
through (Ok x) next P y f e = f x e
through (Err d) next P y f e = absurd (no_err e)

-- what was accepted came through the first part
pub opened : {A B : Type 0} (r : Result A CardFault) (next : A → Result B CardFault) (y : B) → and_then r next ≡ Ok y → (x : A) × (r ≡ Ok x) × (next x ≡ Ok y)
opened (Ok x) next y e = (x, refl, e)
opened (Err d) next y e = absurd (no_err e)

pub chosen_ok : {A : Type 0} (b : Bool) (x : A) (d : CardFault) (y : A) → cond b (Ok x) (Err d) ≡ Ok y → (b ≡ true) × (x ≡ y)
chosen_ok true x d y e = (refl, cc)
chosen_ok false x d y e = absurd (no_err e)

pub chosen_some : {A : Type 0} (b : Bool) (x y : A) → cond b (Some x) None ≡ Some y → (b ≡ true) × (x ≡ y)
chosen_some true x y e = (refl, cc)
chosen_some false x y e = absurd (no_none e)

-- the counts
pub record Counted (n : Sizes) : Type 0 where
  pub two : 2 ≤ n.joints
  pub most : n.joints ≤ 32
  pub some_link : 1 ≤ n.links
  pub most_links : n.links ≤ 64
  pub some_coil : 1 ≤ n.coils
  pub most_coils : n.coils ≤ 8

counted : (at j l c : ℕ) (n : Sizes) → sized at j l c ≡ Ok n → Counted n
counted at j l c n e =
    let h = chosen_ok (countable j l c) _ _ n e in
    let t = h.0 in
    subst Counted h.1 (record { two = grind (arith, nat_tests); most = grind (arith, nat_tests); some_link = grind (arith, nat_tests); most_links = grind (arith, nat_tests); some_coil = grind (arith, nat_tests); most_coils = grind (arith, nat_tests) })

pub sizes_counted : (bytes : List ℕ) (at : ℕ) (n : Sizes) → sizes_at bytes at ≡ Ok n → Counted n
sizes_counted bytes at n =
    through (field_at bytes at 6) _ Counted n (λ j. through (field_at bytes (at + 6) 7) _ Counted n (λ l. through (field_at bytes (at + 13) 4) _ Counted n (λ c. counted at j l c n)))

-- a link lies between the joints
pub kept : {A : Type 0} (o : Option A) (d : CardFault) (x : A) → ok_or o d ≡ Ok x → o ≡ Some x
kept None d x e = absurd (no_err e)
kept (Some y) d x e = cc

placed-between : (joints : ℕ) (l m : Link) → placed joints l ≡ Some m → between joints m ≡ true
placed-between joints l m e = let h = chosen_some (between joints l) l m e in subst (λ x. between joints x ≡ true) h.1 h.0

link_of_between : (joints from to : ℕ) (c : Option Contact) (m : Link) → link_of joints from to c ≡ Some m → between joints m ≡ true
link_of_between joints from to None m e = absurd (no_none e)
link_of_between joints from to (Some c) m e = placed-between joints (record { from = from; to = to; contact = c }) m e

link_between : (bytes : List ℕ) (joints at : ℕ) (m : Link) → link_at bytes joints at ≡ Ok m → between joints m ≡ true
link_between bytes joints at m =
    let P : Link → Type 0 = λ x. between joints x ≡ true in
    through (field_at bytes at 5) _ P m (λ from. through (field_at bytes (at + 5) 5) _ P m (λ to. through (field_at bytes (at + 10) 2) _ P m (λ kind. through (field_at bytes (at + 12) 2) _ P m (λ area. through (field_at bytes (at + 14) 8) _ P m (λ number e.
    link_of_between joints from to (contact_of kind area number) m (kept (link_of joints from to (contact_of kind area number)) _ m e))))))

-- a coil is on an output or a marker
coil_of_drivable : (action : ℕ) (o : Option Point) (m : Coil) → coil_of action o ≡ Some m → drivable m.point.area ≡ true
coil_of_drivable action None m e = absurd (no_none e)
coil_of_drivable action (Some p) m e =
    let h = chosen_some (drivable p.area) _ m e in
    subst (λ (x : Coil). drivable x.point.area ≡ true) h.1 h.0

coil_drivable : (bytes : List ℕ) (at : ℕ) (m : Coil) → coil_at bytes at ≡ Ok m → drivable m.point.area ≡ true
coil_drivable bytes at m =
    let P : Coil → Type 0 = λ x. drivable x.point.area ≡ true in
    through (field_at bytes at 2) _ P m (λ action. through (field_at bytes (at + 2) 2) _ P m (λ area. through (field_at bytes (at + 4) 8) _ P m (λ number e.
    coil_of_drivable action (point_of area number) m (kept (coil_of action (point_of area number)) _ m e))))

-- a row keeps what each part keeps
module _ {A : Type 0} (part : ℕ → Result A CardFault) (width : ℕ) (good : A → Bool) (all : List A → Bool) (none : all [] ≡ true) (more : (x : A) (xs : List A) → good x ≡ true → all xs ≡ true → all (x ∷ xs) ≡ true) (each : (at : ℕ) (x : A) → part at ≡ Ok x → good x ≡ true) where
  row_rest : (x : A) (xs : List A) (r : Result (List A) CardFault) → good x ≡ true → ((ys : List A) → r ≡ Ok ys → all ys ≡ true) → and_then r (λ ys. Ok (x ∷ ys)) ≡ Ok xs → all xs ≡ true
  row_rest x xs (Err d) g f e = absurd (no_err e)
  row_rest x xs (Ok ys) g f e = let q : (x ∷ ys) ≡ xs = cc in subst (λ l. all l ≡ true) q (more x ys g (f ys refl))

  row_first : (at : ℕ) (xs : List A) (r : Result A CardFault) (rest : Result (List A) CardFault) → part at ≡ r → ((ys : List A) → rest ≡ Ok ys → all ys ≡ true) → and_then r (λ x. and_then rest (λ ys. Ok (x ∷ ys))) ≡ Ok xs → all xs ≡ true
  row_first at xs (Err d) rest h f e = absurd (no_err e)
  row_first at xs (Ok x) rest h f e = row_rest x xs rest (each at x h) f e

  row_all : (n at : ℕ) (xs : List A) → row_at part width n at ≡ Ok xs → all xs ≡ true
  row_all zero at xs e = let q : [] ≡ xs = cc in subst (λ l. all l ≡ true) q none
  row_all (suc n) at xs e = row_first at xs (part at) (row_at part width n (at + width)) refl (row_all n (at + width)) e

both_true : (a b : Bool) → a ≡ true → b ≡ true → (a && b) ≡ true
both_true true b p q = q
both_true false b p q = p

pub links_linked : (count : ℕ) (bytes : List ℕ) (joints at : ℕ) (ls : List Link) → links_at count bytes joints at ≡ Ok ls → linked joints ls ≡ true
links_linked count bytes joints at ls = row_all (link_at bytes joints) 22 (between joints) (linked joints) refl (λ x xs p q. both_true _ _ p q) (link_between bytes joints) count at ls

pub coils-driven : (count : ℕ) (bytes : List ℕ) (at : ℕ) (cs : List Coil) → coils_at count bytes at ≡ Ok cs → driven cs ≡ true
coils-driven count bytes at cs = row_all (coil_at bytes) 12 (λ c. drivable c.point.area) driven refl (λ x xs p q. both_true _ _ p q) (coil_drivable bytes) count at cs
