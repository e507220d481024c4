-- The encoding of rungs: the bits of a card, field by field, and the padding behind them.
use Rattle.std.specs.Prelude.{◌≡◌, ℕ, zero, suc, ◌/◌, ◌%◌, ◌^◌, ◌<◌, ◌≤◌, true, List, [], ◌∷◌, ◌++◌, length, replicate}
use Rattle.std.specs.List.{flat_map, AllByRecursion}
use Rattle.points.specs.Points.{area_code}
use Rattle.wiring.specs.declared.rung.Contact.{Contact}
use Rattle.wiring.specs.declared.rung.Contact.TheVariants.{Wire, Open, Closed}
use Rattle.wiring.specs.declared.rung.Link.{Link}
use Rattle.wiring.specs.declared.rung.Action.{Action}
use Rattle.wiring.specs.declared.rung.Action.TheVariants.{Store, StoreNot, Set, Reset}
use Rattle.wiring.specs.declared.rung.Coil.{Coil}
use Rattle.wiring.specs.Drawn.{linked, driven}
use Rattle.wiring.specs.Circuit.{Circuit}
use Rattle.cards.specs.Bits.{bits}

-- a number in a field of so many bits, the most significant first
unfoldable pub field_bits : ℕ → ℕ → List ℕ
field_bits zero n = []
field_bits (suc w) n = n / 2 ^ w % 2 ∷ field_bits w n

-- a wire is contact 0, open at rest is 1, closed at rest is 2
abbrev pub kind_code : Contact → ℕ
kind_code Wire = 0
kind_code (Open p) = 1
kind_code (Closed p) = 2

-- the area of a contact's point; a wire has 0
abbrev pub contact_area : Contact → ℕ
contact_area Wire = 0
contact_area (Open p) = area_code p.area
contact_area (Closed p) = area_code p.area

-- the number of a contact's point; a wire has 0
abbrev pub contact_number : Contact → ℕ
contact_number Wire = 0
contact_number (Open p) = p.number
contact_number (Closed p) = p.number

-- action 0 stores, 1 stores the inverse, 2 sets, 3 resets
abbrev pub action_code : Action → ℕ
action_code Store = 0
action_code StoreNot = 1
action_code Set = 2
action_code Reset = 3

-- a link: from 5 bits, to 5, contact 2, area 2, number 8
abbrev pub link_bits : Link → List ℕ
link_bits l = field_bits 5 l.from ++ field_bits 5 l.to ++ field_bits 2 (kind_code l.contact) ++ field_bits 2 (contact_area l.contact) ++ field_bits 8 (contact_number l.contact)

-- a coil: action 2 bits, area 2, number 8
abbrev pub coil_bits : Coil → List ℕ
coil_bits c = field_bits 2 (action_code c.action) ++ field_bits 2 (area_code c.point.area) ++ field_bits 8 c.point.number

-- a rung: joints 6 bits, number of links 7, number of coils 4, then the links, then the coils
abbrev pub circuit_bits : Circuit → List ℕ
circuit_bits c = field_bits 6 c.joints ++ field_bits 7 (length c.links) ++ field_bits 4 (length c.coils) ++ flat_map link_bits c.links ++ flat_map coil_bits c.coils

-- a card: number of rungs 8 bits, then the rungs
abbrev pub card_bits : List Circuit → List ℕ
card_bits cs = field_bits 8 (length cs) ++ flat_map circuit_bits cs

-- a rung that a card can hold
pub record Drawable (c : Circuit) : Type 0 where
  pub two : 2 ≤ c.joints
  pub most : c.joints ≤ 32
  pub some_link : 1 ≤ length c.links
  pub most_links : length c.links ≤ 64
  pub some_coil : 1 ≤ length c.coils
  pub most_coils : length c.coils ≤ 8
  -- the links' ends differ and are joints of the rung
  pub linked : linked c.joints c.links ≡ true
  -- the coils drive outputs and markers
  pub driven : driven c.coils ≡ true
  -- an area has 256 points
  pub contact_points : AllByRecursion (λ (l : Link). contact_number l.contact < 256) c.links
  pub coil_points : AllByRecursion (λ (x : Coil). x.point.number < 256) c.coils

-- the bytes are the encoding of the rungs, filled up with fewer than eight zero bits
pub record Encoded (bytes : List ℕ) (cs : List Circuit) : Type 0 where
  pub padding : ℕ
  pub short : padding < 8
  pub are : bits bytes ≡ card_bits cs ++ replicate padding 0
