-- The codes of areas, contacts and actions, and what they are read as.
use Rattle.std.proofs.Common.{◌≡◌, ℕ, zero, suc, ◌<◌, true, cond, ◌&&◌, eqb, Some, None, Option, sym, refl, ap, ◌∙◌, subst, arith}
use Rattle.std.specs.Option.{option_map}
use Rattle.std.proofs.lemmas.Bool.{and_parts, eqb-true, cond-true}
use Rattle.std.proofs.lemmas.Bool.Decides.{nat_tests}
use Rattle.points.specs.declared.point.Area.{Area}
use Rattle.points.specs.declared.point.Area.TheVariants.{Input, Output, Marker}
use Rattle.points.specs.declared.point.Point.{Point}
use Rattle.points.specs.Points.{area_code, area_of}
use Rattle.wiring.specs.declared.rung.Contact.{Contact}
use Rattle.wiring.specs.declared.rung.Contact.TheVariants.{Wire, Open, Closed}
use Rattle.wiring.specs.declared.rung.Link.{Link}
use Rattle.wiring.specs.declared.rung.Action.{Action}
use Rattle.wiring.specs.declared.rung.Action.TheVariants.{Store, StoreNot, Set, Reset}
use Rattle.wiring.specs.declared.rung.Coil.{Coil}
use Rattle.wiring.specs.Drawn.{between, drivable}
use Rattle.cards.specs.Rungs.{point_of, contact_of, link_of, action_of, coil_of}
use Rattle.cards.specs.Encoding.{kind_code, contact_area, contact_number, action_code}
use Rattle.cards.proofs.Limits.{no_none, chosen_some}

-- areas
pub area_code_lem : (n : ℕ) (a : Area) → area_of n ≡ Some a → area_code a ≡ n
area_code_lem n Input e = grind (arith, nat_tests)
area_code_lem n Output e = grind (arith, nat_tests)
area_code_lem n Marker e = grind (arith, nat_tests)

pub area_of_code : (a : Area) → area_of (area_code a) ≡ Some a
area_of_code Input = refl
area_of_code Output = refl
area_of_code Marker = refl

pub area_small : (a : Area) → area_code a < 4
area_small Input = omega arith
area_small Output = omega arith
area_small Marker = omega arith

-- points
pub record PointCode (area number : ℕ) (p : Point) : Type 0 where
  pub area_is : area_code p.area ≡ area
  pub number_is : p.number ≡ number

some_point : (area number : ℕ) (o : Option Area) (p : Point) → area_of area ≡ o → option_map (λ a. record { area = a; number = number }) o ≡ Some p → PointCode area number p
some_point area number None p e h = absurd (no_none h)
some_point area number (Some a) p e h =
    let q : record { area = a; number = number } ≡ p = cc in
    subst (PointCode area number) q (record { area_is = area_code_lem area a e; number_is = refl })

pub point_code : (area number : ℕ) (p : Point) → point_of area number ≡ Some p → PointCode area number p
point_code area number p h = some_point area number (area_of area) p refl h

pub point_of_code : (p : Point) → point_of (area_code p.area) p.number ≡ Some p
point_of_code p = ap (option_map (λ a. record { area = a; number = p.number })) (area_of_code p.area)

-- contacts
pub record ContactCode (kind area number : ℕ) (c : Contact) : Type 0 where
  pub kind_is : kind_code c ≡ kind
  pub area_is : contact_area c ≡ area
  pub number_is : contact_number c ≡ number

some_open : (area number : ℕ) (o : Option Point) (c : Contact) → point_of area number ≡ o → option_map Open o ≡ Some c → ContactCode 1 area number c
some_open area number None c e h = absurd (no_none h)
some_open area number (Some p) c e h =
    let q : Open p ≡ c = cc in
    let k = point_code area number p e in
    subst (ContactCode 1 area number) q (record { kind_is = refl; area_is = k.area_is; number_is = k.number_is })

some_closed : (area number : ℕ) (o : Option Point) (c : Contact) → point_of area number ≡ o → option_map Closed o ≡ Some c → ContactCode 2 area number c
some_closed area number None c e h = absurd (no_none h)
some_closed area number (Some p) c e h =
    let q : Closed p ≡ c = cc in
    let k = point_code area number p e in
    subst (ContactCode 2 area number) q (record { kind_is = refl; area_is = k.area_is; number_is = k.number_is })

some_wire : (area number : ℕ) (c : Contact) → cond (eqb area 0 && eqb number 0) (Some Wire) None ≡ Some c → ContactCode 0 area number c
some_wire area number c h =
    let t = chosen_some (eqb area 0 && eqb number 0) Wire c h in
    let b = and_parts (eqb area 0) (eqb number 0) t.0 in
    subst (ContactCode 0 area number) t.1 (record { kind_is = refl; area_is = sym (eqb-true area 0 b.0); number_is = sym (eqb-true number 0 b.1) })

pub contact_code : (kind area number : ℕ) (c : Contact) → contact_of kind area number ≡ Some c → ContactCode kind area number c
contact_code zero area number c h = some_wire area number c h
contact_code (suc zero) area number c h = some_open area number (point_of area number) c refl h
contact_code (suc (suc zero)) area number c h = some_closed area number (point_of area number) c refl h
contact_code (suc (suc (suc k))) area number c h =
    let e : contact_of (suc (suc (suc k))) area number ≡ None = grind (arith, nat_tests) in
    absurd (no_none (sym e ∙ h))

pub contact_of_code : (c : Contact) → contact_of (kind_code c) (contact_area c) (contact_number c) ≡ Some c
contact_of_code Wire = refl
contact_of_code (Open p) = ap (option_map Open) (point_of_code p)
contact_of_code (Closed p) = ap (option_map Closed) (point_of_code p)

pub kind_small : (c : Contact) → kind_code c < 4
kind_small Wire = omega arith
kind_small (Open p) = omega arith
kind_small (Closed p) = omega arith

pub contact_area_small : (c : Contact) → contact_area c < 4
contact_area_small Wire = omega arith
contact_area_small (Open p) = area_small p.area
contact_area_small (Closed p) = area_small p.area

-- links
pub record LinkCode (joints from to kind area number : ℕ) (l : Link) : Type 0 where
  pub from_is : l.from ≡ from
  pub to_is : l.to ≡ to
  pub contact : ContactCode kind area number l.contact
  pub placed : between joints l ≡ true

some_link : (joints from to kind area number : ℕ) (o : Option Contact) (l : Link) → contact_of kind area number ≡ o → link_of joints from to o ≡ Some l → LinkCode joints from to kind area number l
some_link joints from to kind area number None l e h = absurd (no_none h)
some_link joints from to kind area number (Some c) l e h =
    let t = chosen_some (between joints (record { from = from; to = to; contact = c })) _ l h in
    subst (LinkCode joints from to kind area number) t.1 (record { from_is = refl; to_is = refl; contact = contact_code kind area number c e; placed = t.0 })

pub link_code : (joints from to kind area number : ℕ) (l : Link) → link_of joints from to (contact_of kind area number) ≡ Some l → LinkCode joints from to kind area number l
link_code joints from to kind area number l h = some_link joints from to kind area number (contact_of kind area number) l refl h

pub link_of_code : (joints : ℕ) (l : Link) → between joints l ≡ true → link_of joints l.from l.to (contact_of (kind_code l.contact) (contact_area l.contact) (contact_number l.contact)) ≡ Some l
link_of_code joints l b = ap (link_of joints l.from l.to) (contact_of_code l.contact) ∙ cond-true (between joints l) _ _ b

-- actions
pub action_code_lem : (n : ℕ) → n < 4 → action_code (action_of n) ≡ n
action_code_lem zero h = refl
action_code_lem (suc zero) h = refl
action_code_lem (suc (suc zero)) h = refl
action_code_lem (suc (suc (suc zero))) h = refl
action_code_lem (suc (suc (suc (suc n)))) h = absurd (omega arith)

pub action_of_code : (a : Action) → action_of (action_code a) ≡ a
action_of_code Store = refl
action_of_code StoreNot = refl
action_of_code Set = refl
action_of_code Reset = refl

pub action_small : (a : Action) → action_code a < 4
action_small Store = omega arith
action_small StoreNot = omega arith
action_small Set = omega arith
action_small Reset = omega arith

-- coils
pub record CoilCode (action area number : ℕ) (c : Coil) : Type 0 where
  pub action_is : action_code c.action ≡ action
  pub point : PointCode area number c.point
  pub drives : drivable c.point.area ≡ true

some_coil : (action area number : ℕ) (o : Option Point) (c : Coil) → action < 4 → point_of area number ≡ o → coil_of action o ≡ Some c → CoilCode action area number c
some_coil action area number None c s e h = absurd (no_none h)
some_coil action area number (Some p) c s e h =
    let t = chosen_some (drivable p.area) _ c h in
    subst (CoilCode action area number) t.1 (record { action_is = action_code_lem action s; point = point_code area number p e; drives = t.0 })

pub coil_code : (action area number : ℕ) (c : Coil) → action < 4 → coil_of action (point_of area number) ≡ Some c → CoilCode action area number c
coil_code action area number c s h = some_coil action area number (point_of area number) c s refl h

pub coil_of_code : (c : Coil) → drivable c.point.area ≡ true → coil_of (action_code c.action) (point_of (area_code c.point.area) c.point.number) ≡ Some c
coil_of_code c d =
    ap (coil_of (action_code c.action)) (point_of_code c.point)
    ∙ cond-true (drivable c.point.area) _ _ d
    ∙ ap (λ (a : Action). Some (record { action = a; point = c.point })) (action_of_code c.action)
