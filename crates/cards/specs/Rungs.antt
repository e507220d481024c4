-- What the bits of a card say of a rung, field by field.
use Rattle.std.specs.Prelude.{ℕ, zero, suc, ◌+◌, ◌*◌, Bool, cond, ◌&&◌, List, [], ◌∷◌, length, Some, None, Ok, Err, Option, Result, ◌==◌, nat_le}
use Rattle.std.specs.Option.{option_map, ok_or}
use Rattle.points.specs.declared.point.Point.{Point}
use Rattle.points.specs.Points.{area_of}
use Rattle.wiring.specs.declared.rung.Contact.{Contact}
use Rattle.wiring.specs.declared.rung.Contact.TheVariants.{Wire, Open, Closed}
use Rattle.wiring.specs.declared.rung.Link.{Link}
use Rattle.wiring.specs.declared.rung.Action.{Action}
use Rattle.wiring.specs.declared.rung.Action.TheVariants.{Store, StoreNot, Set, Reset}
use Rattle.wiring.specs.declared.rung.Coil.{Coil}
use Rattle.wiring.specs.Drawn.{between, drivable}
use Rattle.wiring.specs.Circuit.{Circuit}
use Rattle.cards.specs.declared.fault.CardCause.{CardCause}
use Rattle.cards.specs.declared.fault.CardCause.TheVariants.{Counts, LinkField, CoilField}
use Rattle.cards.specs.declared.fault.CardFault.{CardFault}
use Rattle.cards.specs.declared.sizes.Sizes.{Sizes}
use Rattle.cards.specs.Bits.{field_at}

-- on with what was read, or out with the fault
abbrev pub and_then : {A B E : Type 0} → Result A E → (A → Result B E) → Result B E
and_then (Ok x) next = next x
and_then (Err e) next = Err e

-- so many parts of a width, one after the other from a bit on
abbrev pub row_at : {A : Type 0} → (ℕ → Result A CardFault) → ℕ → ℕ → ℕ → Result (List A) CardFault
row_at part width zero at = Ok []
row_at part width (suc n) at = and_then (part at) (λ x. and_then (row_at part width n (at + width)) (λ xs. Ok (x ∷ xs)))

-- a cause at a bit
abbrev pub fault_at : CardCause → ℕ → CardFault
fault_at cause bit = record { cause = cause; bit = bit }

-- the point of an area's number and a number
abbrev pub point_of : ℕ → ℕ → Option Point
point_of area number = option_map (λ a. record { area = a; number = number }) (area_of area)

-- contact 0 is a wire, with area and number 0; 1 is open at rest, 2 closed at rest; 3 is unused
abbrev pub contact_of : ℕ → ℕ → ℕ → Option Contact
contact_of kind area number =
    cond (kind == 0) (cond (area == 0 && number == 0) (Some Wire) None)
    (cond (kind == 1) (option_map Open (point_of area number))
    (cond (kind == 2) (option_map Closed (point_of area number)) None))

-- a link, if its ends lie between the joints
abbrev pub placed : ℕ → Link → Option Link
placed joints link = cond (between joints link) (Some link) None

abbrev pub link_of : ℕ → ℕ → ℕ → Option Contact → Option Link
link_of joints from to None = None
link_of joints from to (Some contact) = placed joints (record { from = from; to = to; contact = contact })

-- action 0 stores, 1 stores the inverse, 2 sets, 3 resets
abbrev pub action_of : ℕ → Action
action_of n = cond (n == 0) Store (cond (n == 1) StoreNot (cond (n == 2) Set Reset))

-- a coil, if its point is an output or a marker
abbrev pub coil_of : ℕ → Option Point → Option Coil
coil_of action None = None
coil_of action (Some point) = cond (drivable point.area) (Some (record { action = action_of action; point = point })) None

-- a link's five fields: from 5, to 5, contact 2, area 2, number 8
abbrev pub link_at : List ℕ → ℕ → ℕ → Result Link CardFault
link_at bytes joints at =
    and_then (field_at bytes at 5) (λ from. and_then (field_at bytes (at + 5) 5) (λ to. and_then (field_at bytes (at + 10) 2) (λ kind. and_then (field_at bytes (at + 12) 2) (λ area. and_then (field_at bytes (at + 14) 8) (λ number.
    ok_or (link_of joints from to (contact_of kind area number)) (fault_at LinkField at))))))

-- so many links, one after the other
abbrev pub links_at : ℕ → List ℕ → ℕ → ℕ → Result (List Link) CardFault
links_at count bytes joints at = row_at (link_at bytes joints) 22 count at

-- a coil's three fields: action 2, area 2, number 8
abbrev pub coil_at : List ℕ → ℕ → Result Coil CardFault
coil_at bytes at =
    and_then (field_at bytes at 2) (λ action. and_then (field_at bytes (at + 2) 2) (λ area. and_then (field_at bytes (at + 4) 8) (λ number.
    ok_or (coil_of action (point_of area number)) (fault_at CoilField at))))

-- so many coils, one after the other
abbrev pub coils_at : ℕ → List ℕ → ℕ → Result (List Coil) CardFault
coils_at count bytes at = row_at (coil_at bytes) 12 count at

-- 2 to 32 joints, 1 to 64 links, 1 to 8 coils
abbrev pub countable : ℕ → ℕ → ℕ → Bool
countable joints links coils = nat_le 2 joints && (nat_le joints 32 && (nat_le 1 links && (nat_le links 64 && (nat_le 1 coils && nat_le coils 8))))

abbrev pub sized : ℕ → ℕ → ℕ → ℕ → Result Sizes CardFault
sized at joints links coils = cond (countable joints links coils) (Ok (record { joints = joints; links = links; coils = coils })) (Err (fault_at Counts at))

-- a rung's three counts: joints 6, links 7, coils 4
abbrev pub sizes_at : List ℕ → ℕ → Result Sizes CardFault
sizes_at bytes at =
    and_then (field_at bytes at 6) (λ joints. and_then (field_at bytes (at + 6) 7) (λ links. and_then (field_at bytes (at + 13) 4) (λ coils.
    sized at joints links coils)))

-- the rung that starts at a bit
abbrev pub rung_at : List ℕ → ℕ → Result Circuit CardFault
rung_at bytes at =
    and_then (sizes_at bytes at) (λ n. and_then (links_at n.links bytes n.joints (at + 17)) (λ links. and_then (coils_at n.coils bytes (at + 17 + 22 * n.links)) (λ coils.
    Ok (record { joints = n.joints; links = links; coils = coils }))))

-- how many bits a rung takes
abbrev pub rung_bits : Circuit → ℕ
rung_bits c = 17 + 22 * length c.links + 12 * length c.coils
