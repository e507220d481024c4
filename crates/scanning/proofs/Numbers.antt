-- Every point of a card has one of the 256 numbers of its area.
use Rattle.std.proofs.Common.{◌≡◌, ℕ, zero, suc, ◌+◌, ◌*◌, ◌<◌, ◌≤◌, Bool, true, false, cond, ◌&&◌, eqb, leb, List, [], ◌∷◌, ◌++◌, length, take, drop, Some, None, Ok, Err, Option, Result, sym, refl, ap, subst, inl, inr, arith}
use Rattle.std.specs.Option.{option_map, ok_or}
use Rattle.points.specs.declared.point.Area.{Area}
use Rattle.points.specs.declared.point.Point.{Point}
use Rattle.points.specs.Points.{area_of}
use Rattle.wiring.specs.declared.rung.Coil.{Coil}
use Rattle.wiring.specs.declared.rung.Contact.{Contact}
use Rattle.wiring.specs.declared.rung.Contact.TheVariants.{Wire, Open, Closed}
use Rattle.wiring.specs.declared.rung.Link.{Link}
use Rattle.wiring.specs.Circuit.{Circuit}
use Rattle.wiring.specs.Drawn.{between, drivable}
use Rattle.wiring.specs.Lists.{In}
use Rattle.cards.specs.declared.fault.CardFault.{CardFault}
use Rattle.cards.specs.Bits.{byte_bits, bits, number_on, field_of, field_at}
use Rattle.cards.specs.Rungs.{and_then, row_at, point_of, contact_of, link_of, link_at, links_at, action_of, coil_of, coil_at, coils_at, sizes_at, rung_at}
use Rattle.scanning.specs.Listings.{Within, Numbered}
use Rattle.scanning.proofs.Apart.{no_err, no_none}

-- each is a bit
abbrev Bits : List ℕ → Type 0
Bits [] = Unit {0}
Bits (b ∷ bs) = (b < 2) × Bits bs

byte_bits_lem : (b : ℕ) (bs : List ℕ) → Bits bs → Bits (byte_bits b ++ bs)
byte_bits_lem b bs h = (omega arith, (omega arith, (omega arith, (omega arith, (omega arith, (omega arith, (omega arith, (omega arith, h))))))))

all-bits : (bytes : List ℕ) → Bits (bits bytes)
all-bits [] = tt
all-bits (b ∷ bs) = byte_bits_lem b (bits bs) (all-bits bs)

bits-drop : (n : ℕ) (bs : List ℕ) → Bits bs → Bits (drop n bs)
bits-drop zero bs h = h
bits-drop (suc n) [] h = tt
bits-drop (suc n) (b ∷ bs) h = bits-drop n bs h.1

-- a number doubled so many times
abbrev doubled : ℕ → ℕ → ℕ
doubled zero m = m
doubled (suc w) m = doubled w (m * 2)

doubled_grows : (w m : ℕ) → m ≤ doubled w m
doubled_grows zero m = omega arith
doubled_grows (suc w) m = let h = doubled_grows w (m * 2) in omega arith

-- so many bits write a number below that power of two
number_below : (w : ℕ) (bs : List ℕ) (n m : ℕ) → Bits bs → n < m → number_on n (take w bs) < doubled w m
number_below zero bs n m h l = l
number_below (suc w) [] n m h l = let g = doubled_grows (suc w) m in omega arith
number_below (suc w) (b ∷ bs) n m h l = let s = h.0 in number_below w bs (n * 2 + b) (m * 2) h.1 (omega arith)

field_below : (bytes : List ℕ) (at : ℕ) → field_of bytes at 8 < 256
unfolding field_of
field_below bytes at = number_below 8 (drop at (bits bytes)) 0 1 (bits-drop at (bits bytes) (all-bits bytes)) (omega arith)

chosen_field : (b : Bool) (x : ℕ) (d : CardFault) (y : ℕ) → x < 256 → cond b (Ok x) (Err d) ≡ Ok y → y < 256
chosen_field true x d y h e = let q : x ≡ y = cc in omega arith
chosen_field false x d y h e = absurd (no_err e)

field_number : (bytes : List ℕ) (at n : ℕ) → field_at bytes at 8 ≡ Ok n → n < 256
field_number bytes at n e = chosen_field (leb (at + 8) (8 * length bytes)) (field_of bytes at 8) _ n (field_below bytes at) e

-- what is accepted has come through every part
through : {A B : Type 0} (r : Result A CardFault) (next : A → Result B CardFault) (P : Type 0) (y : B) → ((x : A) → r ≡ Ok x → next x ≡ Ok y → P) → and_then r next ≡ Ok y → P
through (Ok x) next P y f e = f x refl e
through (Err d) next P y f e = absurd (no_err e)

kept : {A : Type 0} (o : Option A) (d : CardFault) (x : A) → ok_or o d ≡ Ok x → o ≡ Some x
kept None d x e = absurd (no_err e)
kept (Some y) d x e = cc

-- a point has the number that it was given
numbered_point : (o : Option Area) (n : ℕ) (p : Point) → option_map (λ a. record { area = a; number = n }) o ≡ Some p → p.number ≡ n
numbered_point None n p e = absurd (no_none e)
numbered_point (Some a) n p e = let q : record { area = a; number = n } ≡ p = cc in ap (λ (x : Point). x.number) (sym q)

open_within : (o : Option Point) (x : Contact) → ((p : Point) → o ≡ Some p → p.number < 256) → option_map Open o ≡ Some x → Within x
open_within None x h e = absurd (no_none e)
open_within (Some p) x h e = let q : Open p ≡ x = cc in subst Within q (h p refl)

closed_within : (o : Option Point) (x : Contact) → ((p : Point) → o ≡ Some p → p.number < 256) → option_map Closed o ≡ Some x → Within x
closed_within None x h e = absurd (no_none e)
closed_within (Some p) x h e = let q : Closed p ≡ x = cc in subst Within q (h p refl)

contact_within : (wire bare opens closes : Bool) (o : Option Point) (x : Contact) → ((p : Point) → o ≡ Some p → p.number < 256)
    → cond wire (cond bare (Some Wire) None) (cond opens (option_map Open o) (cond closes (option_map Closed o) None)) ≡ Some x → Within x
contact_within true true opens closes o x h e = let q : Wire ≡ x = cc in subst Within q tt
contact_within true false opens closes o x h e = absurd (no_none e)
contact_within false bare true closes o x h e = open_within o x h e
contact_within false bare false true o x h e = closed_within o x h e
contact_within false bare false false o x h e = absurd (no_none e)

placed-within : (b : Bool) (l m : Link) → Within l.contact → cond b (Some l) None ≡ Some m → Within m.contact
placed-within true l m h e = let q : l ≡ m = cc in subst (λ (x : Link). Within x.contact) q h
placed-within false l m h e = absurd (no_none e)

link_of_within : (joints from to : ℕ) (o : Option Contact) (m : Link) → ((x : Contact) → o ≡ Some x → Within x) → link_of joints from to o ≡ Some m → Within m.contact
link_of_within joints from to None m h e = absurd (no_none e)
link_of_within joints from to (Some x) m h e = placed-within (between joints (record { from = from; to = to; contact = x })) (record { from = from; to = to; contact = x }) m (h x refl) e

point_below : (area n : ℕ) → n < 256 → (p : Point) → point_of area n ≡ Some p → p.number < 256
point_below area n h p e = let q = numbered_point (area_of area) n p e in omega arith

link_within : (bytes : List ℕ) (joints at : ℕ) (m : Link) → link_at bytes joints at ≡ Ok m → Within m.contact
link_within bytes joints at m =
    let P : Type 0 = Within m.contact in
    through (field_at bytes at 5) _ P m (λ from _. through (field_at bytes (at + 5) 5) _ P m (λ to _. through (field_at bytes (at + 10) 2) _ P m (λ kind _. through (field_at bytes (at + 12) 2) _ P m (λ area _. through (field_at bytes (at + 14) 8) _ P m (λ number f e.
    link_of_within joints from to (contact_of kind area number) m
    (λ x. contact_within (eqb kind 0) (eqb area 0 && eqb number 0) (eqb kind 1) (eqb kind 2) (point_of area number) x (point_below area number (field_number bytes (at + 14) number f)))
    (kept (link_of joints from to (contact_of kind area number)) _ m e))))))

driven-below : (b : Bool) (x m : Coil) → x.point.number < 256 → cond b (Some x) None ≡ Some m → m.point.number < 256
driven-below true x m h e = let q : x ≡ m = cc in subst (λ (y : Coil). y.point.number < 256) q h
driven-below false x m h e = absurd (no_none e)

coil_of_below : (action : ℕ) (o : Option Point) (m : Coil) → ((p : Point) → o ≡ Some p → p.number < 256) → coil_of action o ≡ Some m → m.point.number < 256
coil_of_below action None m h e = absurd (no_none e)
coil_of_below action (Some p) m h e = driven-below (drivable p.area) (record { action = action_of action; point = p }) m (h p refl) e

coil_below : (bytes : List ℕ) (at : ℕ) (m : Coil) → coil_at bytes at ≡ Ok m → m.point.number < 256
coil_below bytes at m =
    let P : Type 0 = m.point.number < 256 in
    through (field_at bytes at 2) _ P m (λ action _. through (field_at bytes (at + 2) 2) _ P m (λ area _. through (field_at bytes (at + 4) 8) _ P m (λ number f e.
    coil_of_below action (point_of area number) m (point_below area number (field_number bytes (at + 4) number f)) (kept (coil_of action (point_of area number)) _ m e))))

-- what holds of each part holds of every member of a row
module _ {A : Type 0} (part : ℕ → Result A CardFault) (width : ℕ) (P : A → Type 0) (each : (at : ℕ) (x : A) → part at ≡ Ok x → P x) where
  row_all : (n at : ℕ) (xs : List A) → row_at part width n at ≡ Ok xs → (x : A) → In x xs → P x
  row_all zero at xs e x p = let q : xs ≡ [] = cc in absurd (subst (λ (l : List A). In x l) q p)
  row_all (suc n) at xs e x p =
      through (part at) _ (P x) xs
      (λ y f. through (row_at part width n (at + width)) _ (P x) xs
      (λ ys g h. let q : xs ≡ y ∷ ys = cc in among y ys (each at y f) (row_all n (at + width) ys g x) (subst (λ (l : List A). In x l) q p))) e
    where
      among : (y : A) (ys : List A) → P y → (In x ys → P x) → In x (y ∷ ys) → P x
      among y ys h f (inl i) = subst P (sym i) h
      among y ys h f (inr i) = f i

pub rung_numbered : (bytes : List ℕ) (at : ℕ) (c : Circuit) → rung_at bytes at ≡ Ok c → Numbered c
rung_numbered bytes at c =
    through (sizes_at bytes at) _ (Numbered c) c
    (λ n _. through (links_at n.links bytes n.joints (at + 17)) _ (Numbered c) c
    (λ links f. through (coils_at n.coils bytes (at + 17 + 22 * n.links)) _ (Numbered c) c
    (λ coils g e.
    let q : record { joints = n.joints; links = links; coils = coils } ≡ c = cc in
    subst Numbered q
    (record {
      contacts = row_all (link_at bytes n.joints) 22 (λ l. Within l.contact) (link_within bytes n.joints) n.links (at + 17) links f;
      coils = row_all (coil_at bytes) 12 (λ x. x.point.number < 256) (coil_below bytes) n.coils (at + 17 + 22 * n.links) coils g;
    }))))
