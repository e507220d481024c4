-- What the links and coils of a rung must keep.
use Rattle.std.specs.Prelude.{ℕ, Bool, true, false, not, ◌&&◌, List, [], ◌∷◌, ◌==◌, nat_lt}
use Rattle.points.specs.declared.point.Area.{Area}
use Rattle.points.specs.declared.point.Area.TheVariants.{Input, Output, Marker}
use Rattle.wiring.specs.declared.rung.Link.{Link}
use Rattle.wiring.specs.declared.rung.Coil.{Coil}

-- a link's ends differ and are joints of the rung
abbrev pub between : ℕ → Link → Bool
between joints l = nat_lt l.from joints && (nat_lt l.to joints && not (l.from == l.to))

abbrev pub linked : ℕ → List Link → Bool
linked joints [] = true
linked joints (l ∷ ls) = between joints l && linked joints ls

-- a coil drives an output or a marker
abbrev pub drivable : Area → Bool
drivable Input = false
drivable Output = true
drivable Marker = true

abbrev pub driven : List Coil → Bool
driven [] = true
driven (c ∷ cs) = drivable c.point.area && driven cs
